use Rattle.std.proofs.Common.{◌∙◌, sym}
use Rattle.std.proofs.lemmas.Bool.{false≢true}
use Rattle.suite_plan.proofs.InstanceLemmas.{named_ok, named_other, short_text}
use Rattle.suite_plan.proofs.provisioning.named_by_few.Goals as goal

pub words_in_order-requires : goal.words_in_order-requires
words_in_order-requires c = short_text c.args.bytes.now c.requires (c.is_text.ensures.0 c.if-is_text.true)

pub returns-then-is_text : goal.returns-then-is_text
returns-then-is_text c = named_ok c.args.bytes.now c.words_in_order.result c.requires (c.is_text.ensures.0 c.if-is_text.true) c.words_in_order.ensures

pub returns-else-is_text : goal.returns-else-is_text
returns-else-is_text c = c.new.ensures ∙ sym (named_other c.args.bytes.now (λ text. false≢true (sym c.if-is_text.false ∙ c.is_text.ensures.1 text)))

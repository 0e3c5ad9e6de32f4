use Rattle.std.proofs.Common.{rules}
use Rattle.sub_number.proofs.PlainLemmas.{text_from_plain}
use Rattle.sub_number.proofs.text.is_text.Goals as goal

pub returns-then-are_plain : goal.returns-then-are_plain
returns-then-are_plain c = (λ plain. text_from_plain c.args.bytes.now (c.are_plain.ensures plain), λ text. search rules)

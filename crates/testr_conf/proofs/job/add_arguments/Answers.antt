use Rattle.std.proofs.Common.{◌∷◌, arith, subst, sym}
use Rattle.std.proofs.lemmas.Grind.{common_steps}
use Rattle.sub_number.specs.Texts.{IsText}
use Rattle.testr_conf.specs.Jobs.{single_quoted}
use Rattle.testr_conf.proofs.QuoteLemmas.{argument_text}
use Rattle.testr_conf.proofs.TextLemmas.{text_then}
use Rattle.testr_conf.proofs.job.add_arguments.Goals as goal

pub loop-word-preserved : goal.loop-word-preserved
loop-word-preserved c = record {
  value = grind (arith, common_steps);
  text =
      text_then c.loop-word.command.items c.add_argument.new.command.items (32 ∷ single_quoted c.bytes.result.now) c.in_ok-add_argument.ensures c.loop-word.invariant.text
      (argument_text c.bytes.result.now (subst IsText (sym c.bytes.ensures.bytes) c.bytes.ensures.text.text));
}

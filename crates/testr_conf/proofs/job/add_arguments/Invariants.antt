use Rattle.std.proofs.Common.{◌≡◌, ◌++◌, take}
use Rattle.sub_number.specs.Texts.{IsText}
use Rattle.testr_conf.specs.Jobs.{arguments_text}
use Rattle.testr_conf.proofs.job.add_arguments.Given as goal

abbrev pub invariant-loop-word : goal.invariant-loop-word
invariant-loop-word l = record {
  value : l.command.items ≡ l.fn.command.items ++ arguments_text (take l.word-index l.words);
  text : IsText l.command.items;
}

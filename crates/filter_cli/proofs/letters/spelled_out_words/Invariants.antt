use Rattle.std.proofs.Common.{◌≡◌, ◌++◌, drop}
use Rattle.command_words.specs.Items.{texts}
use Rattle.filter_cli.specs.Letters as letters
use Rattle.filter_cli.proofs.letters.spelled_out_words.Given as goal

-- those made so far, and those that stand for the words to come, are all
abbrev pub invariant-loop-word : goal.invariant-loop-word
invariant-loop-word l = texts l.longer.items ++ letters.all_spelled_out_behind l.value (texts (drop l.word-index l.words)) ≡ letters.all_spelled_out (texts l.words)

use Rattle.std.proofs.Common.{◌≡◌, ◌++◌, drop}
use Rattle.command_words.specs.Items.{texts}
use Rattle.testr_words.specs.Letters as letters
use Rattle.testr_words.proofs.letters.spelled_out_words.Given as goal

-- those made so far, and those that stand for the words to come, are all
abbrev pub invariant-loop-word : goal.invariant-loop-word
invariant-loop-word g l = texts l.longer.items ++ letters.long_words_behind (g.T.OptionTable.kinds l.table) l.value (texts (drop l.word-index l.words)) ≡ letters.long_words (g.T.OptionTable.kinds l.table) (texts l.words)

use Rattle.std.proofs.Common.{◌≡◌, drop}
use Rattle.command_words.specs.Items.{texts}
use Rattle.testr_words.specs.Words.{if_texts}
use Rattle.testr_words.proofs.WordsLemmas.{behind}
use Rattle.testr_words.proofs.project.texts_of.Given as goal

-- the words taken so far, with those that are left
abbrev pub invariant-loop-word : goal.invariant-loop-word
invariant-loop-word l = behind l.list (texts (drop l.word-index l.given)) ≡ if_texts (texts l.given)

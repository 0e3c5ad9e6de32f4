use Rattle.std.proofs.Common.{◌≡◌, ◌+◌, false, drop}
use Rattle.command_words.specs.Items.{texts}
use Rattle.testr_words.specs.Words.{before_end}
use Rattle.testr_words.proofs.project.before_end.Given as goal

-- the words gone by, with those in front of the end among the words that are left
abbrev pub invariant-loop-word : goal.invariant-loop-word
invariant-loop-word l = record {
  counted : l.place ≡ l.word-index;
  whole : before_end l.face false (texts l.given) ≡ before_end l.face l.asked (texts (drop l.word-index l.given)) + l.place;
}

use Rattle.std.proofs.Common.{◌≡◌, ◌≤◌, ◌++◌, length}
use Rattle.sub_number.specs.Texts.{IsText}
use Rattle.testr_conf.specs.White.{words_of}
use Rattle.testr_conf.proofs.white_space.read_words.Given as goal

abbrev pub invariant-loop-at : goal.invariant-loop-at
invariant-loop-at l = record {
  read : words_of l.text ≡ l.words ++ words_of l.rest;
  shorter : length l.rest ≤ length l.text;
  text : IsText l.rest;
}

abbrev pub decreases-loop-at : goal.decreases-loop-at
decreases-loop-at l = length l.rest

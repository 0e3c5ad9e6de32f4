use Rattle.std.proofs.Common.{◌≡◌, ◌≤◌, length}
use Rattle.v1_bridge.specs.TagWords.{tags_after_words, spaced_words}
use Rattle.v1_bridge.proofs.tags.take_words.Given as goal

abbrev pub invariant-loop-rest : goal.invariant-loop-rest
invariant-loop-rest l = record {
  read : tags_after_words l.set (spaced_words l.rest) ≡ tags_after_words l.fn.set (spaced_words l.words);
  shorter : length l.rest ≤ length l.words;
}

abbrev pub decreases-loop-rest : goal.decreases-loop-rest
decreases-loop-rest l = length l.rest

use Rattle.std.proofs.Common.{◌≡◌, take}
use Rattle.outcome_fold.proofs.text_set.copies_of.Given as goal

abbrev pub invariant-loop-tag : goal.invariant-loop-tag
invariant-loop-tag l = l.copies ≡ take l.tag-index l.tags

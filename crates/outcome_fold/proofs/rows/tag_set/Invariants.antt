use Rattle.std.proofs.Common.{◌≡◌, take}
use Rattle.outcome_fold.specs.Answers.{seen_tags_of}
use Rattle.outcome_fold.proofs.rows.tag_set.Given as goal

abbrev pub invariant-loop-row : goal.invariant-loop-row
invariant-loop-row l = l.tags ≡ seen_tags_of (take l.row-index l.rows)

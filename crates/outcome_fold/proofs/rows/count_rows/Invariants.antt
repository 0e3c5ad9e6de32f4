use Rattle.std.proofs.Common.{◌≡◌, ◌≤◌, ◌*◌, ◌^◌, ℕ, List, take}
use Rattle.std.specs.Option.{unwrap_or}
use Rattle.outcome_fold.specs.declared.row.Row.{Row}
use Rattle.outcome_fold.specs.declared.row.Counts.{Counts}
use Rattle.outcome_fold.specs.Answers.{counts_of}
use Rattle.outcome_fold.proofs.rows.count_rows.Given as goal

-- the counts of the first i rows, and how large they can be
pub record IsCounted (counts : Counts) (tags : List (List ℕ)) (rows : List Row) (i : ℕ) : Type 0 where
  pub counted : counts ≡ counts_of tags (take i rows)
  pub total : counts.total ≤ i
  pub passed : counts.passed ≤ i
  pub failed : counts.failed ≤ i
  pub skipped : counts.skipped ≤ i
  pub nanos : unwrap_or counts.nanos 0 ≤ i * 2 ^ 64

abbrev pub invariant-loop-row : goal.invariant-loop-row
invariant-loop-row l = IsCounted l.counts l.filter_tags l.rows l.row-index

-- What is counted of tests as they end.
use Rattle.std.specs.Prelude.{◌≡◌, ◌||◌, Bool, not, List, map, count_by}
use Rattle.outcome_fold.specs.declared.row.Ended.{Ended}
use Rattle.outcome_fold.specs.declared.row.Row.{Row}
use Rattle.outcome_fold.specs.declared.row.Counts.{Counts}
use Rattle.outcome_fold.specs.Rows.{is_failure, is_skip}
use Rattle.outcome_fold.specs.Answers.{is_existing, seen_tags_of}
use Rattle.filter_cli.specs.declared.tally.Tally.{Tally}
use Rattle.filter_cli.specs.declared.tally.Kind.{Kind}
use Rattle.filter_cli.specs.declared.tally.Kind.TheVariants as kind

-- neither failed nor skipped, and no test that is only known to exist
abbrev pub is_pass : Ended → Bool
is_pass how = not (is_failure how || is_skip how || is_existing how)

-- a test that ended so is counted under this kind; under `Run` are all but those that are only known to exist
abbrev pub is_of : Kind → Ended → Bool
is_of kind.Run how = not (is_existing how)
is_of kind.Passed how = is_pass how
is_of kind.Failed how = is_failure how
is_of kind.Skipped how = is_skip how

-- it has counted these rows: how each of them ended, and the tags of those that ran
pub record HasTallied (tally : Tally) (rows : List Row) : Type 0 where
  pub ended : tally.ended.items ≡ map (λ row. row.ended) rows
  pub tags : tally.tags ≡ seen_tags_of rows

-- the counts of tests that ended so, but for times
pub record AreCounts (counts : Counts) (all : List Ended) : Type 0 where
  pub total : counts.total ≡ count_by (is_of kind.Run) all
  pub passed : counts.passed ≡ count_by (is_of kind.Passed) all
  pub failed : counts.failed ≡ count_by (is_of kind.Failed) all
  pub skipped : counts.skipped ≡ count_by (is_of kind.Skipped) all

-- Which tests are kept (docs/FORMATS.md, "subunit-filter").
use Rattle.std.specs.Prelude.{ℕ, Bool, true, ◌&&◌, ◌||◌, not, List, length, nat_eq, ◌==◌}
use Rattle.std.specs.List.{list_any, list_all}
use Rattle.std.specs.Cmp.Lexicographic.{pointwise}
use Rattle.outcome_fold.specs.declared.row.Ended.{Ended}
use Rattle.outcome_fold.specs.declared.row.Ended.TheVariants as ended
use Rattle.outcome_fold.specs.declared.row.Row.{Row}
use Rattle.partition_times.specs.Patterns.{is_found}
use Rattle.event_sift.specs.declared.rules.Rules.{Rules}

-- A test that is only known to exist goes always. A failure, a success that was not expected and a test that was left
-- open go by one rule.
abbrev pub allows : Rules → Ended → Bool
allows rules ended.Exists = true
allows rules ended.Success = rules.success
allows rules ended.UxSuccess = rules.failure
allows rules ended.Skip = rules.skip
allows rules ended.Fail = rules.failure
allows rules ended.XFail = rules.xfail
allows rules ended.Open = rules.failure

-- the tag is one of these
abbrev pub has_tag : List (List ℕ) → List ℕ → Bool
has_tag tags tag = list_any (λ own. pointwise nat_eq own tag) tags

-- every tag that is asked for is one of these, and no tag that is not wanted
abbrev pub keeps_tags : Rules → List (List ℕ) → Bool
keeps_tags rules tags = list_all (has_tag tags) rules.with_tags && not (list_any (has_tag tags) rules.without_tags)

-- some of the patterns is found in the id, where there are any
abbrev pub has_wanted : List (List ℕ) → List ℕ → Bool
has_wanted patterns id = (length patterns == 0) || is_found patterns id

-- the id is one that the rules want
abbrev pub has_wanted_id : Rules → List ℕ → Bool
has_wanted_id rules id = has_wanted rules.with_ids id

-- The rules keep a test of this id, by how it ended, by its tags, and by the id. The tags count in any order.
abbrev pub keeps_test : Rules → List ℕ → Ended → List (List ℕ) → Bool
keeps_test rules id how tags = allows rules how && (keeps_tags rules tags && (has_wanted_id rules id && not (is_found rules.without_ids id)))

-- the rules keep the test of the row
abbrev pub keeps : Rules → Row → Bool
keeps rules row = keeps_test rules row.id row.ended row.tags

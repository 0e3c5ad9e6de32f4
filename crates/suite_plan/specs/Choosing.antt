-- Which tests run (docs/COMMANDS.md).
use Rattle.std.specs.Prelude.{ℕ, Bool, not, List, [], ◌++◌, Option, None, Some, option_map}
use Rattle.std.specs.Option.{option_or, unwrap_or}
use Rattle.std.specs.List.{filter}
use Rattle.outcome_fold.specs.Order.{among}
use Rattle.partition_times.specs.Patterns.{is_found, picked_ids}
pub use Rattle.partition_times.specs.Shares.{Ids}
use Rattle.suite_plan.specs.Firsts.{firsts}
use Rattle.suite_plan.specs.declared.picks.Picks.{Picks}
use Rattle.suite_plan.specs.declared.picks.FurtherPicks.{FurtherPicks}

-- the ids, in their order, that stand among the others
abbrev pub ids_in_both : Ids → Ids → Ids
ids_in_both ids others = filter (among others) ids

-- The ids before any pattern, but for a listing. `failing` are those of the failing set, and `listed` those of a load list,
-- each where it is asked for.
abbrev pub given_ids : Option Ids → Option Ids → Option Ids
given_ids (Some failing) (Some listed) = Some (ids_in_both failing listed)
given_ids (Some failing) None = Some failing
given_ids None listed = listed

-- The ids before any pattern: where none are given so, those that a listing gave, where it is asked for. With none of them
-- no ids are given.
abbrev pub base_ids : Option Ids → Option Ids → Option Ids → Option Ids
base_ids failing listed listing = option_or (given_ids failing listed) listing

-- ---- by patterns

-- the patterns with further ones behind them, where there are some
abbrev pub with_further : Picks → FurtherPicks → Picks
with_further picks further = record {
  including = picks.including ++ unwrap_or further.including [];
  excluding = picks.excluding ++ unwrap_or further.excluding [];
}

-- none of the patterns is found in the id
abbrev pub is_missed : List (List ℕ) → List ℕ → Bool
is_missed patterns id = not (is_found patterns id)

-- the ids in which none of the patterns is found, in their order
abbrev pub missed_ids : List (List ℕ) → Ids → Ids
missed_ids patterns ids = filter (is_missed patterns) ids

-- The ids that are wanted, in their order: those in which some including pattern is found, or all where there is none of
-- these, without those in which some excluding pattern is found.
abbrev pub wanted_ids : Picks → Ids → Ids
wanted_ids picks ids = missed_ids picks.excluding (picked_ids picks.including ids)

-- the ids that are wanted, of repeated ones the first
abbrev pub chosen_of : Picks → Ids → Ids
chosen_of picks ids = firsts (wanted_ids picks ids)

-- the ids of a run, where ids are given; else one worker runs all tests
abbrev pub chosen_ids : Picks → Option Ids → Option Ids
chosen_ids picks base = option_map (chosen_of picks) base

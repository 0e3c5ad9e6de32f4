-- Ids that are gathered one after another.
use Rattle.std.specs.Prelude.{◌≡◌, ℕ, List}
use Rattle.outcome_fold.specs.Order.{in_byte_order}
use Rattle.suite_plan.specs.declared.first_ids.FirstIds.{FirstIds}
use Rattle.suite_plan.specs.Firsts.{firsts}

-- these ids came, and of repeats the first was kept
pub record HasFirsts (found : FirstIds) (ids : List (List ℕ)) : Type 0 where
  pub ids_are : found.ids ≡ firsts ids
  pub seen_are : found.seen ≡ in_byte_order ids

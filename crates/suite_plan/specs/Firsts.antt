-- Lists of ids in which each id stands once.
use Rattle.std.specs.Prelude.{ℕ, List, [], ◌∷◌}
use Rattle.outcome_fold.specs.Order.{without}

-- the ids in their order, of repeats the first
abbrev pub firsts : List (List ℕ) → List (List ℕ)
firsts [] = []
firsts (id ∷ ids) = id ∷ without (firsts ids) (id ∷ [])

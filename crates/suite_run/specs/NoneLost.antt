-- That no test of a run's jobs vanishes (docs/FORMATS.md, "Tests that were lost").
use Rattle.std.specs.Prelude.{◌≡◌, ◌⊎◌, ⊤, ℕ, pos, true, List, [], ◌∷◌}
use Rattle.std.specs.List.{All, AllByRecursion}
use Rattle.edge_io.specs.Children.{Output}
use Rattle.edge_io.specs.declared.child.Finish.TheVariants.{Exit}
use Rattle.outcome_fold.specs.Answers.{ids_of}
use Rattle.outcome_fold.specs.Order.{among}
use Rattle.outcome_fold.specs.declared.row.Row.{Row}
use Rattle.worker_lane.specs.Sought.{AreShort}
use Rattle.worker_mux.specs.Outputs.{first_ids, other_ids}

-- one of the rows is of this id
abbrev pub HasRow : List Row → (id : List ℕ) → Type 0
HasRow rows id = among (ids_of rows) id ≡ true

-- the child ended with 0
abbrev pub EndedWell : Output → Type 0
EndedWell output = output.finish ≡ Exit (pos 0)

-- each of the ids is the id of a row, or the child ended with 0
abbrev pub LosesNone : List Row → (ids : List (List ℕ)) → Output → Type 0
LosesNone rows ids output = EndedWell output ⊎ AllByRecursion (HasRow rows) ids

-- the ids of each job can be named
abbrev pub AreAllShort : (asked : List (List (List ℕ))) → Type 0
AreAllShort asked = All AreShort asked

-- each of the children ended with 0, or each of the ids that its job names is the id of a row
abbrev pub LoseNone : List Row → (asked : List (List (List ℕ))) → List Output → Type 0
LoseNone rows asked [] = ⊤
LoseNone rows asked (output ∷ others) = LosesNone rows (first_ids asked) output × LoseNone rows (other_ids asked) others

-- What the output of a probe's child says (docs/FORMATS.md, "Causes").
use Rattle.std.specs.Prelude.{◌≡◌, ⊤, ℕ, Bool, nat_eq, Result, Ok, Err, List, [], ◌∷◌}
use Rattle.std.specs.List.{filter, list_any}
use Rattle.std.specs.Cmp.Lexicographic.{pointwise}
use Rattle.edge_io.specs.Children.{Output}
use Rattle.outcome_fold.specs.Answers.{row_fails}
use Rattle.outcome_fold.specs.Rows.{rows_of}
use Rattle.outcome_fold.specs.declared.row.Row.{Row}
use Rattle.suite_plan.specs.Children.{IsBroken}
use Rattle.worker_mux.specs.Outputs.{events_asked}
use Rattle.suite_causes.specs.declared.probe_run.ProbeFault.{ProbeFault}
use Rattle.suite_causes.specs.declared.probe_run.ProbeFault.TheVariants.{Child, NoMemory}

-- one of the rows that fail is of the test
abbrev pub one_fails : (test : List ℕ) → List Row → Bool
one_fails test rows = list_any (λ row. pointwise nat_eq row.id test) (filter row_fails rows)

-- The test fails in what is recorded of the output, as that of lane 0, its end included. Each probe's job names the test, so it
-- fails, too, where the child lost it; which others were lost says nothing of it.
abbrev pub fails_in : (test : List ℕ) → Output → Bool
fails_in test output = one_fails test (rows_of (events_asked 0 (test ∷ []) output))

-- the child came to its end, and the answer is that of its output
pub record HasAnswer (test : List ℕ) (failed : Bool) (output : Output) : Type 0 where
  pub ended : IsBroken output.finish → ⊥
  pub answer : failed ≡ fails_in test output

-- what is answered of a child with this output: exactly where it is not broken an answer, but for want of memory
abbrev pub TellsProbe : (test : List ℕ) → Result Bool ProbeFault → Output → Type 0
TellsProbe test (Ok failed) output = HasAnswer test failed output
TellsProbe test (Err Child) output = IsBroken output.finish
TellsProbe test (Err NoMemory) output = ⊤

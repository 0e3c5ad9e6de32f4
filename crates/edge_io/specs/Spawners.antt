-- What a start of a child does to the outputs and the jobs of a spawner (docs/DISK.md, spawners).
use Rattle.std.specs.Prelude.{◌≡◌, List, [], ◌∷◌, ◌++◌, Option, Some, Result, MatchResult}
use Rattle.edge_io.specs.Children.{Output}
use Rattle.edge_io.specs.Steps.{Goes, Stays}
use Rattle.edge_io.specs.declared.job.Job.{Job}

-- what a spawner tells: the outputs of the children to come, in order, and the jobs started so far, in order
pub record Spawning : Type 0 where
  pub outputs : List Output
  pub started : List Job

-- the child that was started for this job tells the first output, and the others are left
pub record Starts (job : Job) (child : Option Output) (s t : Spawning) : Type 0 where
  pub output : Output
  pub tells : child ≡ Some output
  pub first : s.outputs ≡ output ∷ t.outputs
  pub jobs : t.started ≡ s.started ++ job ∷ []

-- a start, by what its child tells; where it fails all is as before
abbrev pub StartsOne : {C E : Type 0} → Job → (C → Option Output) → Option Spawning → Option Spawning → Result C E → Type 0
StartsOne job tells old new result = MatchResult result (λ child. Goes old new (Starts job (tells child))) (λ _. Goes old new Stays)

-- Children that are started and read to their ends.
use Rattle.std.specs.Prelude.{◌≡◌, ◌⊎◌, [], ◌∷◌, ◌++◌}
use Rattle.edge_io.specs.Children.{Output}
use Rattle.edge_io.specs.Spawners.{Spawning}
use Rattle.edge_io.specs.declared.child.Finish.{Finish}
use Rattle.edge_io.specs.declared.child.Finish.TheVariants.{ReadFault, WaitFault}
use Rattle.edge_io.specs.declared.job.Job.{Job}

-- the job was started, and its child has this output
pub record StartsFor (job : Job) (output : Output) (s t : Spawning) : Type 0 where
  pub first : s.outputs ≡ output ∷ t.outputs
  pub jobs : t.started ≡ s.started ++ job ∷ []

-- a child that finishes so cannot be read to its end, or not be waited for
abbrev pub IsBroken : Finish → Type 0
IsBroken finish = (finish ≡ ReadFault) ⊎ (finish ≡ WaitFault)

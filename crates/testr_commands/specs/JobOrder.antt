-- In which order jobs are started where a project asks for instances (docs/FORMATS.md, "Instances").
use Rattle.std.specs.Prelude.{◌≡◌, ◌⊎◌, ℕ, Option, Some, None, IfSome, List, ◌++◌}
use Rattle.edge_io.specs.Causes.{Rose}
use Rattle.edge_io.specs.Children.{Output}
use Rattle.edge_io.specs.Seen.{Seen}
use Rattle.edge_io.specs.Spawners.{Spawning}
use Rattle.edge_io.specs.Steps.{Goes, Stays}
use Rattle.edge_io.specs.declared.job.Job.{Job}
use Rattle.suite_plan.specs.Children.{StartsFor}
use Rattle.suite_plan.specs.Provisioning.{EndsWithZero, EndsUnheard, StartsProvisioning, named_in}
use Rattle.testr_conf.specs.Jobs.{count_job_of, dispose_job_of}
use Rattle.testr_conf.specs.Settings.{Settings, on_instances}
use Rattle.testr_words.specs.declared.command.Command.{Command}
use Rattle.command_steps.specs.Outside.{Outside}
use Rattle.testr_commands.specs.Elsewhere.{AsksForInstances}

-- ---- what a part of the call starts

-- the job was started, where there is one, and nothing else
pub record StartsJob (job : Option Job) (s t : Spawning) : Type 0 where
  pub one : Job
  pub is : job ≡ Some one
  pub output : Output
  pub starts : StartsFor one output s t

-- that, or nothing was started
abbrev pub MayStartJob : Option Job → Spawning → Spawning → Type 0
MayStartJob job s t = Stays s t ⊎ StartsJob job s t

-- some jobs were started, behind those of before
pub record StartsMore (s t : Spawning) : Type 0 where
  pub jobs : List Job
  pub started : t.started ≡ s.started ++ jobs

-- the job was started, where there is one, unless the start failed
abbrev pub StartsUnlessFailed : Option Job → (before after : Seen Spawning) → Type 0
StartsUnlessFailed None before after = after ≡ before
StartsUnlessFailed (Some job) before after = Goes before.told after.told (StartsJob (Some job)) ⊎ (Goes before.told after.told Stays × Rose before.faults after.faults)

-- ---- the order

-- the settings, with the instances that were named, where they were
abbrev pub settings_with : Option (List (List ℕ)) → Settings → Settings
settings_with None settings = settings
settings_with (Some names) settings = on_instances names settings

-- the provision job ended with 0, and these are the instances that it named, where they are told
abbrev pub EndsNaming : Option (List (List ℕ)) → Output → Type 0
EndsNaming names output = EndsWithZero output × IfSome names (λ named. named ≡ named_in output.bytes)

-- The provision job was started and ended with 0. Behind it jobs of the command were started, or none; and behind all of them, where
-- there is one, the dispose job of the instances that were told, or of none.
pub record StartsInTurn (settings : Settings) (workers : ℕ) (counted : Option Spawning) (after : Seen Spawning) : Type 0 where
  pub names : Option (List (List ℕ))
  pub provisioned : Option Spawning
  pub provisions : Goes counted provisioned (StartsProvisioning settings workers (EndsNaming names))
  pub ended : Seen Spawning
  pub does : Goes provisioned ended.told StartsMore
  pub disposes : StartsUnlessFailed (dispose_job_of (settings_with names settings)) ended after

-- What was started behind the job that counts the workers. Where the provision job did not end with 0, or has an output that is
-- longer than can be counted, it is the last.
pub data JobCourse (settings : Settings) (workers : ℕ) (counted : Option Spawning) (after : Seen Spawning) : Type 0 where
  not_provisioned : Goes counted after.told Stays → JobCourse settings workers counted after
  not_well : Goes counted after.told (StartsProvisioning settings workers EndsUnheard) → JobCourse settings workers counted after
  in_turn : StartsInTurn settings workers counted after → JobCourse settings workers counted after

-- The jobs that were started by a call whose project asks for instances, in order: the one that counts the workers, or none, and
-- then those.
pub record HasJobOrder (folder : List ℕ) (command : Command) (before after : Outside) : Type 0 where
  pub settings : Settings
  pub asks : AsksForInstances folder command before.site settings
  pub workers : ℕ
  pub counted : Option Spawning
  pub counts : Goes before.spawner.told counted (MayStartJob (count_job_of settings))
  pub course : JobCourse settings workers counted after.spawner

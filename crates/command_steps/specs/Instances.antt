-- The steps that provision instances and dispose of them, and what their refusals say (docs/FORMATS.md, "Instances").
use Rattle.std.specs.Prelude.{◌≡◌, ◌⊎◌, ℕ, Option, Some, None, Result, Ok, Err, IfOk, IfErr, List, [], ◌++◌, codes}
use Rattle.std.specs.Fmt.{signed_decimal}
use Rattle.std.specs.Io.KnownBytes.{Appends}
use Rattle.edge_io.specs.Bytes.{AppendsPrefix}
use Rattle.edge_io.specs.Causes.{Rose}
use Rattle.edge_io.specs.Seen.{Seen}
use Rattle.edge_io.specs.Spawners.{Spawning}
use Rattle.edge_io.specs.declared.job.Job.{Job}
use Rattle.suite_plan.specs.Provisioning.{Provisions, Disposes, workers_on}
use Rattle.suite_plan.specs.declared.disposing.DisposeFault.{DisposeFault}
use Rattle.suite_plan.specs.declared.disposing.DisposeFault.TheVariants as end
use Rattle.suite_plan.specs.declared.provisioning.ProvisionRefusal.{ProvisionRefusal}
use Rattle.suite_plan.specs.declared.provisioning.ProvisionRefusal.TheVariants.{Spawn, Child, Failed, NoneNamed, NamesLost, NoMemory}
use Rattle.testr_conf.specs.Jobs.{dispose_job_of}
use Rattle.testr_conf.specs.Settings.{Settings, on_instances}
use Rattle.command_steps.specs.SuiteTexts.{spawn_text, child_text}
use Rattle.command_steps.specs.declared.instances.Provided.{Provided}
use Rattle.command_steps.specs.declared.instances.Unprovided.{Unprovided}
use Rattle.command_steps.specs.Reporting.{memory_text}

-- ---- what the refusals say

-- the status where there are no instances
abbrev pub provision_code : ProvisionRefusal → ℕ
provision_code Spawn = 4
provision_code Child = 4
provision_code (Failed status said) = 3
provision_code NoneNamed = 3
provision_code NamesLost = 5
provision_code NoMemory = 5

-- what the provision job said that failed
abbrev pub provision_said : ProvisionRefusal → List ℕ
provision_said (Failed status said) = said
provision_said refusal = []

-- the line where there are no instances
abbrev pub provision_text : ProvisionRefusal → List ℕ
provision_text Spawn = spawn_text
provision_text Child = child_text
provision_text (Failed status said) = codes "testr: provisioning ended with " ++ signed_decimal status ++ codes "\n"
provision_text NoneNamed = codes "testr: no instances\n"
provision_text NamesLost = memory_text
provision_text NoMemory = memory_text

-- the line where the instances may not be disposed of
abbrev pub dispose_text : DisposeFault → List ℕ
dispose_text end.Spawn = spawn_text
dispose_text end.Child = child_text
dispose_text (end.Ended status) = codes "testr: disposing ended with " ++ signed_decimal status ++ codes "\n"
dispose_text end.NoMemory = memory_text

-- ---- provisioning

-- what goes on with these instances, or here where there are none
abbrev pub provided : Settings → (workers : ℕ) → Option (List (List ℕ)) → Provided
provided settings workers None = record { conf = settings; workers = workers; disposal = None }
provided settings workers (Some names) =
    record { conf = on_instances names settings; workers = workers_on workers names; disposal = dispose_job_of (on_instances names settings) }

-- instances were provisioned, or none are wanted, and this is what goes on
pub record ProvidesSo (settings : Settings) (workers : ℕ) (before after : Seen Spawning) (given : Provided) : Type 0 where
  pub names : Option (List (List ℕ))
  pub provisions : Provisions settings workers before after (Ok names)
  pub given_is : given ≡ provided settings workers names

-- What disposes of instances behind a refusal: the job, exactly where the provisioning ended with 0. Its instances are those of the
-- settings as they were read, which are none.
abbrev pub disposal_behind : Settings → ProvisionRefusal → Option Job
disposal_behind settings Spawn = None
disposal_behind settings Child = None
disposal_behind settings (Failed status said) = None
disposal_behind settings NoneNamed = dispose_job_of settings
disposal_behind settings NamesLost = dispose_job_of settings
disposal_behind settings NoMemory = None

-- there are no instances for this reason, and this is what disposes of them
pub record RefusesSo (settings : Settings) (workers : ℕ) (before after : Seen Spawning) (fault : Unprovided) : Type 0 where
  pub provisions : Provisions settings workers before after (Err fault.refusal)
  pub disposal_is : fault.disposal ≡ disposal_behind settings fault.refusal

-- instances were named, but there was no memory for the job that disposes of them
pub record RunsShort (settings : Settings) (workers : ℕ) (before after : Seen Spawning) (fault : Unprovided) : Type 0 where
  pub lost : fault.refusal ≡ NamesLost
  pub disposal_is : fault.disposal ≡ disposal_behind settings fault.refusal
  pub names : List (List ℕ)
  pub provisions : Provisions settings workers before after (Ok (Some names))

-- the step of provisioning for so many workers
pub record Provides (settings : Settings) (workers : ℕ) (before after : Seen Spawning) (result : Result Provided Unprovided) : Type 0 where
  pub given : IfOk result (ProvidesSo settings workers before after)
  pub refused : IfErr result (λ fault. RefusesSo settings workers before after fault ⊎ RunsShort settings workers before after fault)

-- ---- disposing

-- what is told of the end of the instances: nothing where it is well; else its line, whole, or in part where the sink failed
abbrev pub TellsOfEnd : Result (Unit {0}) DisposeFault → Seen (List ℕ) → Seen (List ℕ) → Type 0
TellsOfEnd (Ok done) before after = after ≡ before
TellsOfEnd (Err fault) before after = AppendsPrefix before.told after.told (dispose_text fault) × (Appends before.told after.told (dispose_text fault) ⊎ Rose before.faults after.faults)

-- the dispose job was started once, unless the start failed, and its end was told
pub record DisposesBy (job : Job) (before after : Seen Spawning) (errors told : Seen (List ℕ)) : Type 0 where
  pub answer : Result (Unit {0}) DisposeFault
  pub disposes : Disposes job before after answer
  pub tells : TellsOfEnd answer errors told

-- the step of disposing: where there is no job nothing is done
abbrev pub DisposesOf : Option Job → (before after : Seen Spawning) → (errors told : Seen (List ℕ)) → Type 0
DisposesOf None before after errors told = (after ≡ before) × (told ≡ errors)
DisposesOf (Some job) before after errors told = DisposesBy job before after errors told

-- The instances that a project's own command provisions, and the end of them (docs/FORMATS.md, "Instances").
use Rattle.std.specs.Prelude.{◌≡◌, ◌⊎◌, ⊤, ℕ, ℤ, ◌&&◌, Bool, true, false, pos, min, nat_lt, Option, Some, None, IsSome, Result, Ok, Err, IfOk, IfErr, OnOk, List, [], length, if◌then◌else◌}
use Rattle.edge_io.specs.Causes.{RisesExactlyIf}
use Rattle.edge_io.specs.Children.{Output}
use Rattle.edge_io.specs.Seen.{Seen}
use Rattle.edge_io.specs.Spawners.{Spawning}
use Rattle.edge_io.specs.Steps.{Goes, Stays}
use Rattle.edge_io.specs.declared.child.Finish.TheVariants.{Exit}
use Rattle.edge_io.specs.declared.job.Job.{Job}
use Rattle.outcome_fold.specs.Order.{in_byte_order}
use Rattle.testr_conf.specs.Jobs.{provision_job_of}
use Rattle.testr_conf.specs.Lines.{is_plain_line}
use Rattle.testr_conf.specs.Settings.{Settings}
use Rattle.testr_conf.specs.White.{words_of}
use Rattle.suite_plan.specs.Children.{StartsFor, IsBroken}
use Rattle.suite_plan.specs.Outputs.{IsEndless}
use Rattle.suite_plan.specs.Saying.{most_said, told_of}
use Rattle.suite_plan.specs.declared.disposing.DisposeFault.{DisposeFault}
use Rattle.suite_plan.specs.declared.disposing.DisposeFault.TheVariants as end
use Rattle.suite_plan.specs.declared.provisioning.ProvisionRefusal.{ProvisionRefusal}
use Rattle.suite_plan.specs.declared.provisioning.ProvisionRefusal.TheVariants.{Spawn, Child, Failed, NoneNamed, NamesLost, NoMemory}

-- ---- instances

-- the instances that a whole output names: its words in the order of their bytes, each once, where it is a text that is short
abbrev pub named_in : List ℕ → List (List ℕ)
named_in bytes = if nat_lt (length bytes) most_said && is_plain_line bytes then in_byte_order (words_of bytes) else []

-- no more workers run than there are instances
abbrev pub workers_on : (workers : ℕ) → (instances : List (List ℕ)) → ℕ
workers_on workers instances = min workers (length instances)

-- the job was started, and its child has an output that meets this
pub record StartsToMeet (job : Job) (Meets : Output → Type 0) (s t : Spawning) : Type 0 where
  pub output : Output
  pub started : StartsFor job output s t
  pub meets : Meets output

-- the provision job was started so
pub record StartsProvisioning (settings : Settings) (workers : ℕ) (Meets : Output → Type 0) (s t : Spawning) : Type 0 where
  pub job : Job
  pub job_is : provision_job_of settings workers ≡ Some job
  pub starts : StartsToMeet job Meets s t

-- the child ended with 0, and its output names these instances, of which there is one at least
pub record NamesSome (names : List (List ℕ)) (output : Output) : Type 0 where
  pub ended : output.finish ≡ Exit (pos 0)
  pub names_are : names ≡ named_in output.bytes
  pub some : names ≡ [] → ⊥

-- the child ended with 0, and its output names none
pub record NamesNone (output : Output) : Type 0 where
  pub ended : output.finish ≡ Exit (pos 0)
  pub none : named_in output.bytes ≡ []

-- the child ended with 0
abbrev pub EndsWithZero : Output → Type 0
EndsWithZero output = output.finish ≡ Exit (pos 0)

-- the child did not end with 0, or its output is longer than can be counted
abbrev pub EndsUnheard : Output → Type 0
EndsUnheard output = (EndsWithZero output → ⊥) ⊎ IsEndless output

-- The child ended with this status, which is not 0. This is told of its output, as a text.
pub record EndsOtherwise (status : ℤ) (said : List ℕ) (output : Output) : Type 0 where
  pub ended : output.finish ≡ Exit status
  pub other : status ≡ pos 0 → ⊥
  pub says : said ≡ told_of output.bytes

-- where there is no provision job nothing is started
abbrev pub ProvisionsSo : Settings → (workers : ℕ) → Option (List (List ℕ)) → Spawning → Spawning → Type 0
ProvisionsSo settings workers None s t = Stays s t
ProvisionsSo settings workers (Some names) s t = StartsProvisioning settings workers (NamesSome names) s t

-- why there are no instances, and what was done by then
abbrev pub HasProvisionCause : Settings → (workers : ℕ) → ProvisionRefusal → Spawning → Spawning → Type 0
HasProvisionCause settings workers Spawn s t = IsSome (provision_job_of settings workers) × Stays s t
HasProvisionCause settings workers Child s t = StartsProvisioning settings workers (λ output. IsBroken output.finish) s t
HasProvisionCause settings workers (Failed status said) s t = StartsProvisioning settings workers (EndsOtherwise status said) s t
HasProvisionCause settings workers NoneNamed s t = StartsProvisioning settings workers NamesNone s t
HasProvisionCause settings workers NamesLost s t = StartsProvisioning settings workers EndsWithZero s t
HasProvisionCause settings workers NoMemory s t = Stays s t ⊎ StartsProvisioning settings workers EndsUnheard s t

-- a start failed
abbrev pub provision_failed : Result (Option (List (List ℕ))) ProvisionRefusal → Bool
provision_failed (Ok names) = false
provision_failed (Err Spawn) = true
provision_failed (Err Child) = false
provision_failed (Err (Failed status said)) = false
provision_failed (Err NoneNamed) = false
provision_failed (Err NamesLost) = false
provision_failed (Err NoMemory) = false

-- The step of provisioning for so many workers. There are no instances exactly where there is no provision job, and but for want
-- of memory.
pub record Provisions (settings : Settings) (workers : ℕ) (before after : Seen Spawning) (result : Result (Option (List (List ℕ))) ProvisionRefusal) : Type 0 where
  pub told : IfOk result (λ names. Goes before.told after.told (ProvisionsSo settings workers names))
  pub refused : IfErr result (λ refusal. Goes before.told after.told (HasProvisionCause settings workers refusal))
  pub jobless : result ≡ Ok None → provision_job_of settings workers ≡ None
  pub exactly : provision_job_of settings workers ≡ None → (result ≡ Ok None) ⊎ (result ≡ Err NoMemory)
  pub count : RisesExactlyIf before.faults after.faults (provision_failed result)

-- what is answered of a child that was started and has this output
abbrev pub TellsInstances : Result (List (List ℕ)) ProvisionRefusal → Output → Type 0
TellsInstances (Ok names) output = NamesSome names output
TellsInstances (Err Spawn) output = ⊥
TellsInstances (Err Child) output = IsBroken output.finish
TellsInstances (Err (Failed status said)) output = EndsOtherwise status said output
TellsInstances (Err NoneNamed) output = NamesNone output
TellsInstances (Err NamesLost) output = EndsWithZero output
TellsInstances (Err NoMemory) output = EndsUnheard output

-- it is answered of a child that was started
abbrev pub IsOfProvider : Result (List (List ℕ)) ProvisionRefusal → Type 0
IsOfProvider (Ok names) = ⊤
IsOfProvider (Err Spawn) = ⊥
IsOfProvider (Err Child) = ⊤
IsOfProvider (Err (Failed status said)) = ⊤
IsOfProvider (Err NoneNamed) = ⊤
IsOfProvider (Err NamesLost) = ⊤
IsOfProvider (Err NoMemory) = ⊤

-- what is answered where an output names these: they are some, or none, or there is no memory for them
abbrev pub TellsNames : (named : List (List ℕ)) → Result (List (List ℕ)) ProvisionRefusal → Type 0
TellsNames named (Ok names) = (names ≡ named) × (names ≡ [] → ⊥)
TellsNames named (Err Spawn) = ⊥
TellsNames named (Err Child) = ⊥
TellsNames named (Err (Failed status said)) = ⊥
TellsNames named (Err NoneNamed) = named ≡ []
TellsNames named (Err NamesLost) = ⊤
TellsNames named (Err NoMemory) = ⊥

-- ---- the end of them

-- the child ended with this status, which is not 0
pub record EndsWith (status : ℤ) (output : Output) : Type 0 where
  pub ended : output.finish ≡ Exit status
  pub other : status ≡ pos 0 → ⊥

-- why the instances may not be disposed of, and what was done by then
abbrev pub HasDisposeFault : Job → DisposeFault → Spawning → Spawning → Type 0
HasDisposeFault job end.Spawn s t = Stays s t
HasDisposeFault job end.Child s t = StartsToMeet job (λ output. IsBroken output.finish) s t
HasDisposeFault job (end.Ended status) s t = StartsToMeet job (EndsWith status) s t
HasDisposeFault job end.NoMemory s t = StartsToMeet job IsEndless s t

-- a start failed
abbrev pub dispose_failed : Result (Unit {0}) DisposeFault → Bool
dispose_failed (Ok done) = false
dispose_failed (Err end.Spawn) = true
dispose_failed (Err end.Child) = false
dispose_failed (Err (end.Ended status)) = false
dispose_failed (Err end.NoMemory) = false

-- the step of disposing by this job: it is started once, unless the start fails
pub record Disposes (job : Job) (before after : Seen Spawning) (result : Result (Unit {0}) DisposeFault) : Type 0 where
  pub done : OnOk result (Goes before.told after.told (StartsToMeet job EndsWithZero))
  pub failed : IfErr result (λ fault. Goes before.told after.told (HasDisposeFault job fault))
  pub count : RisesExactlyIf before.faults after.faults (dispose_failed result)

-- what is answered of a child that was started and has this output
abbrev pub TellsEnd : Result (Unit {0}) DisposeFault → Output → Type 0
TellsEnd (Ok done) output = EndsWithZero output
TellsEnd (Err end.Spawn) output = ⊥
TellsEnd (Err end.Child) output = IsBroken output.finish
TellsEnd (Err (end.Ended status)) output = EndsWith status output
TellsEnd (Err end.NoMemory) output = IsEndless output

-- it is answered of a child that was started
abbrev pub IsOfDisposer : Result (Unit {0}) DisposeFault → Type 0
IsOfDisposer (Ok done) = ⊤
IsOfDisposer (Err end.Spawn) = ⊥
IsOfDisposer (Err end.Child) = ⊤
IsOfDisposer (Err (end.Ended status)) = ⊤
IsOfDisposer (Err end.NoMemory) = ⊤

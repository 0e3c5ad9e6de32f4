-- What the steps of a run are given may be other terms of the same values.
use Rattle.std.proofs.Common.{◌≡◌, ℕ, ◌<◌, ◌≤◌, Bool, true, Option, None, Some, IfSome, Result, List, [], ◌∷◌, ◌++◌, length, length-append, sym, ap, subst, ◌∙◌, arith, ◌+◌, false, Ok, refl}
use Rattle.edge_io.specs.Disk.{Folder}
use Rattle.edge_io.specs.Seen.{Seen}
use Rattle.edge_io.specs.declared.job.Job.{Job}
use Rattle.outcome_fold.specs.declared.row.Row.{Row}
use Rattle.run_shelf.specs.Holds.{kinds_of}
use Rattle.run_shelf.specs.declared.found.Found.{Found}
use Rattle.testr_conf.specs.Settings.{Settings}
use Rattle.command_steps.specs.Outside.{Work}
use Rattle.testr_commands.specs.RunSuite.{TellsAndFinds, TellsRun}
use Rattle.command_steps.specs.Selecting.{Planned}
use Rattle.command_steps.specs.Working.{Works}
use Rattle.command_steps.specs.declared.answer.Refusal.{Refusal}
use Rattle.command_steps.specs.declared.answer.Verdict.{Verdict}
use Rattle.command_steps.specs.Causes.{FindsCauses}
use Rattle.command_steps.specs.Verdicts.{verdict_of, verdict_exit_status}
use Rattle.command_steps.specs.declared.answer.Verdict.TheVariants.{Passed, Failed}
use Rattle.testr_commands.proofs.ChainLemmas.{then_did}
use Rattle.testr_commands.proofs.DoneLaws.{same_verdict}
use Rattle.testr_words.specs.declared.format.FormatKind.{FormatKind}

pub works_as : {given partial : Bool} {number : ℕ} {given_jobs jobs : List Job} {given_ids asked : List (List (List ℕ))} {a b : Work} {result : Result (List Row) Refusal} → given ≡ partial → given_jobs ≡ jobs → given_ids ≡ asked → Works given number (record { jobs = given_jobs; asked = given_ids }) a b result → Works partial number (record { jobs = jobs; asked = asked }) a b result
works_as {given = given} {number = number} {given_jobs = given_jobs} {jobs = jobs} {given_ids = given_ids} {asked = asked} {a = a} {b = b} {result = result} is jobs_are ids_are works =
    let same : ◌≡◌ {A = Planned} (record { jobs = given_jobs; asked = given_ids }) (record { jobs = jobs; asked = asked }) = λ i. record { jobs = jobs_are i; asked = ids_are i } in
    subst (λ (p : Bool). Works p number (record { jobs = jobs; asked = asked }) a b result) is (subst (λ (p : Planned). Works given number p a b result) same works)

pub finds_as : (format : FormatKind) (asked : Bool) (settings : Settings) {given number : ℕ} {rows : List Row} {a b : Work} {result : Result Verdict Refusal} → given ≡ number → TellsAndFinds format asked settings given rows a b result → TellsAndFinds format asked settings number rows a b result
finds_as format asked settings {rows = rows} {a = a} {b = b} {result = result} is tells =
    subst (λ (n : ℕ). TellsAndFinds format asked settings n rows a b result) is tells

-- there is the run of this number among these and one more
pub known_among : (given kinds : List Bool) (partial : Bool) (number : ℕ) → given ≡ kinds ++ partial ∷ [] → number ≡ length kinds → number < length given
known_among given kinds partial number is count = omega (arith, ap length is, length-append kinds (partial ∷ []), count)

-- so it is among those that may be there
pub known_so : (found : Option Found) (kinds : List Bool) (partial : Bool) (number : ℕ) → number ≡ length kinds → IfSome found (λ runs. kinds_of runs ≡ kinds ++ partial ∷ []) → IfSome found (λ runs. number < length (kinds_of runs))
known_so None kinds partial number count is = tt
known_so (Some runs) kinds partial number count is = known_among (kinds_of runs) kinds partial number is count

-- what is seen of the folder stays, so what is told does
pub told_still : (answer : ℕ) (find : Bool) (old new : Seen Folder) (before now : ℕ) → (answer ≤ 1 → (find ≡ true → answer ≡ 0) → (new ≡ old) × (now ≡ before)) → answer ≤ 1 → (find ≡ true → answer ≡ 0) → (new.told ≡ old.told) × (now ≡ before)
told_still answer find old new before now still small quiet = (ap (λ (f : Seen Folder). f.told) (still small quiet).0, (still small quiet).1)

-- ---- where it is asked for

pub causes_none : (asked : Bool) (settings : Settings) (number : ℕ) (rows : List Row) (a : Work) → asked ≡ false → FindsCauses asked settings number rows a a (Ok tt)
causes_none true settings number rows a off = cc
causes_none false settings number rows a off = record { answer = refl; same = refl }

pub causes_asked : (asked : Bool) (settings : Settings) (number : ℕ) (rows : List Row) (a b : Work) (result : Result (Unit {0}) Refusal) → asked ≡ true → FindsCauses true settings number rows a b result → FindsCauses asked settings number rows a b result
causes_asked true settings number rows a b result on finds = finds
causes_asked false settings number rows a b result on finds = cc

-- ---- where no test fails

passes_code : (verdict : Verdict) → verdict_exit_status verdict ≡ 0 → verdict ≡ Passed
passes_code Passed none = refl
passes_code Failed none = absurd (omega (arith, none))

-- the verdict that was told is that of the rows
pub verdict_passed : (format : FormatKind) (number : ℕ) (tags : List (List ℕ)) (rows : List Row) (a b : Work) (verdict : Verdict) → TellsRun format number tags rows a b (Ok verdict) → verdict_exit_status verdict ≡ 0 → verdict_of rows ≡ Passed
verdict_passed format number tags rows a b verdict tells none =
    let made = then_did verdict tells in
    let printed = then_did verdict made.next in
    sym (same_verdict printed.next.answer ∙ made.done.says.told.verdict) ∙ passes_code verdict none

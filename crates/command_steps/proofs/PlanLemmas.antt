-- How the jobs of a run's workers are made, step by step.
use Rattle.std.proofs.Common.{◌≡◌, ◌⊎◌, ℕ, ◌+◌, ◌<◌, ◌≤◌, Bool, true, false, Option, Some, Result, Ok, Err, IfErr, OnOk, List, [], length, take, get_or, refl, sym, subst, arith}
use Rattle.std.proofs.lemmas.List.Elements.{All-more, All-get_or}
use Rattle.edge_io.specs.declared.job.Job.{Job}
use Rattle.suite_causes.specs.Searching.{CanHandIds, probe_job}
use Rattle.suite_plan.specs.Choosing.{Ids}
use Rattle.testr_conf.specs.Settings.{Settings}
use Rattle.testr_conf.specs.declared.fault.JobFault.{JobFault}
use Rattle.testr_conf.specs.declared.fault.JobFault.TheVariants.{NoMemory}
use Rattle.command_steps.specs.Selecting.{TimesById, Planned, Divides, HandsIds, NamesIds, shares_of_ids}
use Rattle.command_steps.specs.Steps.{Gives}
use Rattle.command_steps.specs.declared.answer.Refusal.{Refusal}
use Rattle.command_steps.specs.declared.work_plan.LongId.{LongId}
use Rattle.suite_run.specs.NoneLost.{AreAllShort}
use Rattle.worker_lane.specs.Lost.{longest_id}
use Rattle.worker_lane.specs.Sought.{AreShort}
use Rattle.command_steps.specs.declared.test_selection.Selected.{Selected}

pub divides_as : (given groups : Option (List ℕ)) (times : Option TimesById) (selected : Selected) (shares : Option (List Ids)) → given ≡ groups → shares ≡ shares_of_ids given times selected → Divides groups times selected (Ok shares)
divides_as given groups times selected shares is holds = record { shares = subst (λ (g : Option (List ℕ)). shares ≡ shares_of_ids g times selected) is holds }

-- no probe is asked for
pub hands_none : (settings : Settings) (asked : Bool) → asked ≡ false → HandsIds asked settings (Ok tt)
hands_none settings true none = cc
hands_none settings false none = record { handed = λ is. cc; refused = tt; exactly = λ is. cc }

pub hands_asked : (settings : Settings) (asked : Bool) (result : Result (Unit {0}) JobFault) → asked ≡ true → OnOk result (CanHandIds settings) → IfErr result (λ fault. (probe_job settings [] ≡ Err fault) ⊎ (fault ≡ NoMemory)) → IfErr (probe_job settings []) (λ fault. (result ≡ Err fault) ⊎ (result ≡ Err NoMemory)) → HandsIds asked settings result
hands_asked settings asked (Ok v) is handed refused exactly = record { handed = λ _. handed; refused = tt; exactly = λ _. exactly }
hands_asked settings asked (Err fault) is handed refused exactly = record { handed = λ _. tt; refused = (is, refused); exactly = λ _. exactly }

-- the answer of a plan, whose ids may be another term of the same
abbrev pub planned_of : List Job → List Ids → Planned
planned_of jobs asked = record { jobs = jobs; asked = asked }

pub gives_planned : {W : Type 0} {after : W} (jobs : List Job) {given asked : List Ids} → given ≡ asked → Gives {R = Refusal} (planned_of jobs asked) after after (Ok (planned_of jobs given))
gives_planned jobs is = record { answer = λ i. Ok (planned_of jobs (is i)); same = refl }

-- ---- the ids that can be named

abbrev IsShort : List ℕ → Type 0
IsShort id = length id ≤ longest_id

-- one id more that can be named
pub short_more : (ids : List (List ℕ)) (i : ℕ) (id : List ℕ) → i < length ids → id ≡ get_or ids i id → length id ≤ longest_id → AreShort (take i ids) → AreShort (take (i + 1) ids)
short_more ids i id below is short all = All-more IsShort ids i id below all (subst IsShort is short)

-- one that cannot
pub not_short : (ids : List (List ℕ)) (i : ℕ) (id : List ℕ) → i < length ids → id ≡ get_or ids i id → longest_id < length id → AreShort ids → ⊥
not_short ids i id below is long all =
    let short : length id ≤ longest_id = subst IsShort (sym is) (All-get_or IsShort ids i id below all) in
    omega (arith, short, long)

-- and the same of the ids of several jobs
pub all_short_more : (asked : List Ids) (i : ℕ) (ids : Ids) → i < length asked → ids ≡ get_or asked i ids → AreShort ids → AreAllShort (take i asked) → AreAllShort (take (i + 1) asked)
all_short_more asked i ids below is short all = All-more AreShort asked i ids below all (subst AreShort is short)

pub not_all_short : (asked : List Ids) (i : ℕ) (ids : Ids) → i < length asked → ids ≡ get_or asked i ids → (AreShort ids → ⊥) → AreAllShort asked → ⊥
not_all_short asked i ids below is not all = not (subst AreShort (sym is) (All-get_or AreShort asked i ids below all))

-- the ids of shares that are there
pub names_shares : (shares : Option (List Ids)) (given ids : List Ids) (result : Result (Unit {0}) LongId) → given ≡ ids → shares ≡ Some ids → OnOk result (AreAllShort given) → IfErr result (λ _. AreAllShort given → ⊥) → NamesIds shares result
names_shares shares given ids result same is named refused =
    subst (λ (s : Option (List Ids)). NamesIds s result) (sym is)
    (record {
      named = subst (λ (l : List Ids). OnOk result (AreAllShort l)) same named;
      refused = subst (λ (l : List Ids). IfErr result (λ _. AreAllShort l → ⊥)) same refused;
    })

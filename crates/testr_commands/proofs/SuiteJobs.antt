-- How many workers a run has at most.
use Rattle.std.proofs.Common.{◌≡◌, ℕ, zero, suc, ◌≤◌, Bool, true, false, cond, Option, None, Some, IfSome, Result, Ok, Err, List, [], ◌∷◌, length, replicate, min, ◌==◌, ◌+◌, ◌%◌, refl, sym, ap, subst, ◌∙◌, arith}
use Rattle.std.proofs.lemmas.List.{length-replicate}
use Rattle.std.specs.FinMap as fin
use Rattle.edge_io.specs.declared.job.Job.{Job}
use Rattle.testr_conf.specs.Jobs.{run_job_of}
use Rattle.testr_conf.specs.Settings.{Settings}
use Rattle.testr_conf.specs.declared.fault.JobFault.{JobFault}
use Rattle.partition_times.specs.Names.{group_of, members, group_names}
use Rattle.partition_times.specs.Shares.{Ids, Times, with_group, given_to_least, given_in_turn, timed_groups, untimed_groups, shares_of}
use Rattle.partition_times.proofs.ShareLemmas.{length-given, length-to_least}
use Rattle.suite_plan.specs.LaneJobs.{job_before, jobs_from, lane_jobs}
use Rattle.suite_plan.specs.Processors.{IsInRange}
use Rattle.suite_plan.specs.Sharing.{dealt_among, ids_of_shard, shares_for}
use Rattle.suite_plan.specs.declared.worker_shares.TheConstants.{MOST_WORKERS}
use Rattle.suite_plan.proofs.ShareLemmas.{few_kept}
use Rattle.command_steps.specs.Outside.{Work}
use Rattle.suite_run.specs.NoneLost.{AreAllShort}
use Rattle.command_steps.specs.Selecting.{UsesCalled, UsesAsked, CountsWorkers, Selects, shard_times, worker_times, shares_of_ids, Planned, Plans}
use Rattle.command_steps.specs.Selecting.{TimesById as KnownTimes}
use Rattle.command_steps.specs.Steps.{Gives}
use Rattle.testr_words.specs.Suites.{RunOptions}
use Rattle.command_steps.specs.declared.answer.Refusal.{Refusal}
use Rattle.command_steps.specs.declared.test_selection.Selected.{Selected}
use Rattle.testr_commands.proofs.ChainLemmas.{then_did}

-- ---- shares

length-in_turn : (shares : List Ids) (turn : ℕ) (groups : List Ids) → length (given_in_turn shares turn groups) ≡ length shares
length-in_turn shares turn [] = refl
length-in_turn shares turn (group ∷ groups) =
    length-in_turn (with_group shares (turn % length shares) group) (turn + 1) groups ∙ length-given shares (turn % length shares) group

-- there are as many shares as workers
length-shares : (times : Times) (name_of : List ℕ → List ℕ) (ids : Ids) (workers : ℕ) → length (shares_of times name_of ids workers) ≡ workers
length-shares times name_of ids workers =
    let group : List ℕ → Ids = members name_of ids in
    let names : List (List ℕ) = group_names name_of ids in
    let start : List Ids = replicate workers [] in
    let first : List Ids = given_to_least times start (timed_groups times group names) in
    length-in_turn first 0 (untimed_groups times group names) ∙ length-to_least times start (timed_groups times group names) ∙ length-replicate {A = Ids} workers []

-- where one worker has all ids, or there is a share for each
few_of : (one : Bool) (ids : Ids) (shares : List Ids) (workers : ℕ) → 1 ≤ workers → length shares ≡ workers → length (cond one (ids ∷ []) shares) ≤ workers
few_of true ids shares workers some count = some
few_of false ids shares workers some count = omega (arith, count)

few_shares : (times : Times) (groups : Option (List ℕ)) (ids : Ids) (workers : ℕ) → 1 ≤ workers → length (shares_for times groups ids workers) ≤ workers
few_shares times groups ids workers some =
    let dealt : List Ids = dealt_among times groups ids workers in
    let few : length dealt ≤ workers = few_of (workers == 1) ids (shares_of times (group_of groups) ids workers) workers some (length-shares times (group_of groups) ids workers) in
    omega (arith, few, few_kept (shares_for times groups ids workers) dealt (length dealt) refl refl)

few_by_ids : (groups : Option (List ℕ)) (times : Option KnownTimes) (selected : Selected) → IsInRange selected.workers → IfSome (shares_of_ids groups times selected) (λ shares. length shares ≤ 64)
few_by_ids groups times selected range = by selected.ids
  where
    by : (ids : Option Ids) → IfSome (shares_of_ids groups times (record { workers = selected.workers; ids = ids; shard = selected.shard; times = selected.times })) (λ shares. length shares ≤ 64)
    by None = tt
    by (Some ids) = omega (arith, range.1, few_shares (fin.get (worker_times selected.times times)) groups (ids_of_shard (fin.get (shard_times selected.times)) groups selected.shard ids) selected.workers range.0)

-- ---- jobs

before_count : (first : Result Job JobFault) (later : Result (List Job) JobFault) (jobs : List Job) (n : ℕ) → ((others : List Job) → later ≡ Ok others → length others ≡ n) → job_before first later ≡ Ok jobs → length jobs ≡ suc n
before_count (Err fault) later jobs n each is = cc
before_count (Ok job) (Err fault) jobs n each is = cc
before_count (Ok job) (Ok others) jobs n each is =
    let same : job ∷ others ≡ jobs = cc in
    sym (ap length same) ∙ ap suc (each others refl)

none_count : (jobs : List Job) → ◌≡◌ {A = Result (List Job) JobFault} (Ok []) (Ok jobs) → length jobs ≡ 0
none_count jobs is =
    let same : [] ≡ jobs = cc in
    sym (ap length same)

from_count : (settings : Settings) (lane : ℕ) (shares : List Ids) (jobs : List Job) → jobs_from settings lane shares ≡ Ok jobs → length jobs ≡ length shares
from_count settings lane [] jobs is = none_count jobs is
from_count settings lane (share ∷ shares) jobs is =
    before_count (run_job_of settings (Some share) lane) (jobs_from settings (lane + 1) shares) jobs (length shares) (from_count settings (lane + 1) shares) is

lane_count : (settings : Settings) (shares : Option (List Ids)) (jobs : List Job) → IfSome shares (λ list. length list ≤ 64) → lane_jobs settings shares ≡ Ok jobs → length jobs ≤ 64
lane_count settings None jobs few is = omega (arith, before_count (run_job_of settings None 0) (Ok []) jobs 0 none_count is)
lane_count settings (Some shares) jobs few is = omega (arith, few, from_count settings 0 shares jobs is)

same_plan : (a b : Planned) → ◌≡◌ {A = Result Planned Refusal} (Ok a) (Ok b) → a ≡ b
same_plan a b is = cc

pub few_jobs : (settings : Settings) (asked : Bool) (selected : Selected) (a b : Work) (plan : Planned) → IsInRange selected.workers → Plans settings asked selected a b (Ok plan) → length plan.jobs ≤ 64
few_jobs settings asked selected a b plan range plans =
    let known = then_did plan plans in
    let divided = then_did plan known.next in
    let named = then_did plan divided.next in
    let made = then_did plan named.next in
    let handed = then_did plan made.next in
    let few : IfSome divided.value (λ list. length list ≤ 64) = subst (λ (s : Option (List Ids)). IfSome s (λ list. length list ≤ 64)) (sym divided.done.says.shares) (few_by_ids settings.group_regex known.value selected range) in
    subst (λ (p : Planned). length p.jobs ≤ 64) (sym (same_plan _ _ handed.next.answer)) (lane_count settings divided.value made.value few made.done.says.jobs)

-- ---- the number of workers

same_number : (n m : ℕ) → ◌≡◌ {A = Result ℕ Refusal} (Ok n) (Ok m) → n ≡ m
same_number n m is = cc

given_range : (number : ℕ) (a b : Work) (n : ℕ) → IsInRange number → Gives {R = Refusal} number a b (Ok n) → IsInRange n
given_range number a b n range gives = subst IsInRange (sym (same_number n number gives.answer)) range

cut_range : (less : ℕ) → IsInRange (min (suc less) MOST_WORKERS)
cut_range less = (omega arith, omega arith)

called_range : (called : Option ℕ) (a b : Work) (n : ℕ) → UsesCalled called a b (Ok n) → IsInRange n
called_range (Some (suc less)) a b n uses = given_range (min (suc less) MOST_WORKERS) a b n (cut_range less) uses
called_range (Some zero) a b n uses =
    let counted = then_did n uses in
    given_range counted.value counted.between b n counted.done.at.range counted.next
called_range None a b n uses =
    let counted = then_did n uses in
    given_range counted.value counted.between b n counted.done.at.range counted.next

asked_range : (settings : Settings) (asked : ℕ) (a b : Work) (n : ℕ) → UsesAsked settings asked a b (Ok n) → IsInRange n
asked_range settings (suc less) a b n uses = given_range (min (suc less) MOST_WORKERS) a b n (cut_range less) uses
asked_range settings zero a b n uses =
    let called = then_did n uses in
    called_range called.value called.between b n called.next

workers_range : (settings : Settings) (parallel : Bool) (asked : ℕ) (a b : Work) (n : ℕ) → CountsWorkers settings parallel asked a b (Ok n) → IsInRange n
workers_range settings false asked a b n counts = given_range 1 a b n (omega arith, omega arith) counts
workers_range settings true asked a b n counts = asked_range settings asked a b n counts

same_selected : (s t : Selected) → ◌≡◌ {A = Result Selected Refusal} (Ok s) (Ok t) → s ≡ t
same_selected s t is = cc

pub selected_range : (settings : Settings) (options : RunOptions) (a b : Work) (selected : Selected) → Selects settings options a b (Ok selected) → IsInRange selected.workers
selected_range settings options a b selected selects =
    let listed = then_did selected selects in
    let further = then_did selected listed.next in
    let failing = then_did selected further.next in
    let counted = then_did selected failing.next in
    let listing = then_did selected counted.next in
    let chosen = then_did selected listing.next in
    subst (λ (s : Selected). IsInRange s.workers) (sym (same_selected _ _ chosen.next.answer)) (workers_range settings options.parallel options.concurrency failing.between counted.between counted.value counted.done)

-- each id that a job names can be told of
pub short_ids : (settings : Settings) (asked : Bool) (selected : Selected) (a b : Work) (plan : Planned) → Plans settings asked selected a b (Ok plan) → AreAllShort plan.asked
short_ids settings asked selected a b plan plans =
    let known = then_did plan plans in
    let divided = then_did plan known.next in
    let named = then_did plan divided.next in
    let made = then_did plan named.next in
    let handed = then_did plan made.next in
    subst (λ (p : Planned). AreAllShort p.asked) (sym (same_plan _ _ handed.next.answer)) named.done.says.named

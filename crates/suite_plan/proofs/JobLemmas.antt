-- Jobs of shares, one after another.
use Rattle.std.proofs.Common.{◌≡◌, ◌∙◌, ℕ, ◌+◌, ◌<◌, ap, sym, refl, take, length, get_or, List, [], ◌∷◌, ◌++◌, Some, Result, Ok, Err, arith}
use Rattle.std.proofs.lemmas.List.{take_more, length-take-le}
use Rattle.edge_io.specs.declared.job.Job.{Job}
use Rattle.testr_conf.specs.Settings.{Settings}
use Rattle.testr_conf.specs.Jobs.{run_job_of}
use Rattle.testr_conf.specs.declared.fault.JobFault.{JobFault}
use Rattle.partition_times.specs.Shares.{Ids}
use Rattle.suite_plan.specs.LaneJobs.{job_before, jobs_from}

-- jobs in front of others; the first that is refused decides
abbrev jobs_before : Result (List Job) JobFault → Result (List Job) JobFault → Result (List Job) JobFault
jobs_before (Err fault) later = Err fault
jobs_before (Ok jobs) (Err fault) = Err fault
jobs_before (Ok jobs) (Ok others) = Ok (jobs ++ others)

none_before : (later : Result (List Job) JobFault) → later ≡ jobs_before (Ok []) later
none_before (Ok jobs) = refl
none_before (Err fault) = refl

one_before : (first : Result Job JobFault) (jobs later : Result (List Job) JobFault) → job_before first (jobs_before jobs later) ≡ jobs_before (job_before first jobs) later
one_before (Err fault) jobs later = refl
one_before (Ok job) (Err fault) later = refl
one_before (Ok job) (Ok jobs) (Err fault) = refl
one_before (Ok job) (Ok jobs) (Ok others) = refl

jobs_of_both : (settings : Settings) (front rest : List Ids) (lane n : ℕ) → n ≡ lane + length front → jobs_from settings lane (front ++ rest) ≡ jobs_before (jobs_from settings lane front) (jobs_from settings n rest)
jobs_of_both settings [] rest lane n is = ap (λ k. jobs_from settings k rest) (omega (arith, is)) ∙ none_before (jobs_from settings n rest)
jobs_of_both settings (share ∷ front) rest lane n is =
    ap (job_before (run_job_of settings (Some share) lane)) (jobs_of_both settings front rest (lane + 1) n (omega (arith, is)))
    ∙ one_before (run_job_of settings (Some share) lane) (jobs_from settings (lane + 1) front) (jobs_from settings n rest)

-- the job of one more share
pub one_more_job : (settings : Settings) (shares : List Ids) (i : ℕ) (share : Ids) (jobs : List Job) → i < length shares → share ≡ get_or shares i share → jobs_from settings 0 (take i shares) ≡ Ok jobs → (job : Job) → run_job_of settings (Some share) i ≡ Ok job → jobs_from settings 0 (take (i + 1) shares) ≡ Ok (jobs ++ job ∷ [])
one_more_job settings shares i share jobs below share-is jobs-are job is =
    ap (jobs_from settings 0) (take_more shares i share below ∙ ap (λ x. take i shares ++ x ∷ []) (sym share-is))
    ∙ jobs_of_both settings (take i shares) (share ∷ []) 0 i (omega (arith, length-take-le i shares (omega arith)))
    ∙ ap (λ r. jobs_before r (job_before (run_job_of settings (Some share) i) (Ok []))) jobs-are
    ∙ ap (λ r. jobs_before (Ok jobs) (job_before r (Ok []))) is

-- The jobs of the workers (docs/FORMATS.md, "Jobs").
use Rattle.std.specs.Prelude.{ℕ, ◌+◌, List, [], ◌∷◌, Option, None, Some, Result, Ok, Err}
use Rattle.edge_io.specs.declared.job.Job.{Job}
use Rattle.testr_conf.specs.Settings.{Settings}
use Rattle.testr_conf.specs.Jobs.{run_job_of}
use Rattle.testr_conf.specs.declared.fault.JobFault.{JobFault}
use Rattle.partition_times.specs.Shares.{Ids}

-- a job in front of others; the first that is refused decides
abbrev pub job_before : Result Job JobFault → Result (List Job) JobFault → Result (List Job) JobFault
job_before (Err fault) later = Err fault
job_before (Ok job) (Err fault) = Err fault
job_before (Ok job) (Ok jobs) = Ok (job ∷ jobs)

-- a job for each of the shares, where the first of them has this lane and each other the next one
abbrev pub jobs_from : Settings → ℕ → List Ids → Result (List Job) JobFault
jobs_from settings lane [] = Ok []
jobs_from settings lane (share ∷ shares) = job_before (run_job_of settings (Some share) lane) (jobs_from settings (lane + 1) shares)

-- where no ids are given, one job of all tests; else the job of each share, the first share being that of lane 0
abbrev pub lane_jobs : Settings → Option (List Ids) → Result (List Job) JobFault
lane_jobs settings None = job_before (run_job_of settings None 0) (Ok [])
lane_jobs settings (Some shares) = jobs_from settings 0 shares

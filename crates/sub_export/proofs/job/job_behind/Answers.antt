use Rattle.std.proofs.Common.{◌≡◌, Option, IfOk, subst}
use Rattle.sub_export.specs.declared.job.Job.{Job}
use Rattle.sub_export.specs.Said.{told_meant}
use Rattle.sub_export.proofs.JobLemmas.{named_so, nothing_so, once_so}
use Rattle.sub_export.proofs.job.job_behind.Goals as goal

pub returns-then-has_refused-clause-job : goal.returns-then-has_refused-clause-job
returns-then-has_refused-clause-job c = named_so c.args.items.now c.has_refused.result c.has_refused.ensures c.if-has_refused.true

pub returns-in_ok-told_by-in-Nothing-clause-job : goal.returns-in_ok-told_by-in-Nothing-clause-job
returns-in_ok-told_by-in-Nothing-clause-job c =
    subst (λ (j : Option Job). IfOk c.job_if.result (λ job. job ≡ j)) (nothing_so c.args.items.now c.has_refused.result (told_meant c.in_ok-told_by-in-Nothing.field-0) c.has_refused.ensures c.if-has_refused.false c.in-Nothing.ensures c.in_ok-told_by-in-Nothing.ensures) c.job_if.ensures.job

pub returns-in_ok-told_by-in-Once-clause-job : goal.returns-in_ok-told_by-in-Once-clause-job
returns-in_ok-told_by-in-Once-clause-job c =
    subst (λ (j : Option Job). IfOk c.job_if-in-Once.result (λ job. job ≡ j)) (once_so c.args.items.now c.has_refused.result c.in-Once.verdict (told_meant c.in_ok-told_by-in-Once.field-0) c.has_refused.ensures c.if-has_refused.false c.in-Once.ensures c.in_ok-told_by-in-Once.ensures) c.job_if-in-Once.ensures.job

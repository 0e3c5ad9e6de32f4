use Rattle.std.proofs.Common.{rules}
use Rattle.testr_conf.proofs.JobLemmas.{list_told}
use Rattle.testr_conf.proofs.conf.Conf.own_list_job.Goals as goal

pub returns-clause-job : goal.returns-clause-job
returns-clause-job c =
    list_told c.args.self.now c.bytes-command.result.now c.bytes_or_none.result.now c.bytes.result.now c.in_ok-fill_test.field-0.items c.plain_job.result
    (first_of (search rules, cc)) (first_of (search rules, cc)) (first_of (search rules, cc)) (first_of (search rules, cc)) c.in_ok-fill_test.ensures.value c.plain_job.ensures

use Rattle.testr_commands.proofs.ExactUpgrade as exact
use Rattle.testr_commands.proofs.laws.upgrade_refusals_are_exact.Goals as goal

pub returns-clause-no_repository : goal.returns-clause-no_repository
returns-clause-no_repository c = exact.no_repository

pub returns-clause-not_old : goal.returns-clause-not_old
returns-clause-not_old c = exact.not_old

pub returns-clause-unknown_format : goal.returns-clause-unknown_format
returns-clause-unknown_format c = exact.unknown_format

pub returns-clause-bad_count : goal.returns-clause-bad_count
returns-clause-bad_count c = exact.bad_count

pub returns-clause-bad_run : goal.returns-clause-bad_run
returns-clause-bad_run c = exact.bad_run

pub returns-clause-bad_failing : goal.returns-clause-bad_failing
returns-clause-bad_failing c = exact.bad_failing

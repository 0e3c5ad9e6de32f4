use Rattle.testr_commands.proofs.ExactFiles as exact_files
use Rattle.testr_commands.proofs.ExactLemmas as exact
use Rattle.testr_commands.proofs.laws.refusals_are_exact.Goals as goal

pub returns-clause-already_here : goal.returns-clause-already_here
returns-clause-already_here c = exact.already_here

pub returns-clause-no_repository : goal.returns-clause-no_repository
returns-clause-no_repository c = exact.no_repository

pub returns-clause-unknown_format : goal.returns-clause-unknown_format
returns-clause-unknown_format c = exact.unknown_format

pub returns-clause-bad_base : goal.returns-clause-bad_base
returns-clause-bad_base c = exact.bad_base

pub returns-clause-missing_run : goal.returns-clause-missing_run
returns-clause-missing_run c = exact.missing_run

pub returns-clause-full : goal.returns-clause-full
returns-clause-full c = exact.full

pub returns-clause-no_runs : goal.returns-clause-no_runs
returns-clause-no_runs c = exact.no_runs

pub returns-clause-too_long : goal.returns-clause-too_long
returns-clause-too_long c = exact.too_long

pub returns-clause-caches_not_kept : goal.returns-clause-caches_not_kept
returns-clause-caches_not_kept c = exact.caches_not_kept

pub returns-clause-no_file : goal.returns-clause-no_file
returns-clause-no_file c = exact_files.no_file

pub returns-clause-file_too_long : goal.returns-clause-file_too_long
returns-clause-file_too_long c = exact_files.file_too_long

use Rattle.testr_commands.proofs.ExactSuite as exact
use Rattle.testr_commands.proofs.suite_laws.suite_refusals_are_exact.Goals as goal

pub returns-clause-bad_conf : goal.returns-clause-bad_conf
returns-clause-bad_conf c = exact.bad_conf

pub returns-clause-no_list : goal.returns-clause-no_list
returns-clause-no_list c = exact.no_list

pub returns-clause-list_too_long : goal.returns-clause-list_too_long
returns-clause-list_too_long c = exact.list_too_long

pub returns-clause-no_id : goal.returns-clause-no_id
returns-clause-no_id c = exact.no_id

pub returns-clause-table_too_long : goal.returns-clause-table_too_long
returns-clause-table_too_long c = exact.table_too_long

pub returns-clause-bad_number : goal.returns-clause-bad_number
returns-clause-bad_number c = exact.bad_number

pub returns-clause-count_broken : goal.returns-clause-count_broken
returns-clause-count_broken c = exact.count_broken

pub returns-clause-no_list_option : goal.returns-clause-no_list_option
returns-clause-no_list_option c = exact.no_list_option

pub returns-clause-listing_failed : goal.returns-clause-listing_failed
returns-clause-listing_failed c = exact.listing_failed

pub returns-clause-listing_broken : goal.returns-clause-listing_broken
returns-clause-listing_broken c = exact.listing_broken

pub returns-clause-long_id : goal.returns-clause-long_id
returns-clause-long_id c = exact.long_id

pub returns-clause-no_option : goal.returns-clause-no_option
returns-clause-no_option c = exact.no_option

pub returns-clause-bad_pattern : goal.returns-clause-bad_pattern
returns-clause-bad_pattern c = exact.bad_pattern

pub returns-clause-bad_regex : goal.returns-clause-bad_regex
returns-clause-bad_regex c = exact.bad_regex

pub returns-clause-no_id_option : goal.returns-clause-no_id_option
returns-clause-no_id_option c = exact.no_id_option

pub returns-clause-probe_broken : goal.returns-clause-probe_broken
returns-clause-probe_broken c = exact.probe_broken

pub returns-clause-no_patterns : goal.returns-clause-no_patterns
returns-clause-no_patterns c = exact.no_patterns

pub returns-clause-patterns_too_long : goal.returns-clause-patterns_too_long
returns-clause-patterns_too_long c = exact.patterns_too_long

pub returns-clause-no_text : goal.returns-clause-no_text
returns-clause-no_text c = exact.no_text

pub returns-clause-bad_line : goal.returns-clause-bad_line
returns-clause-bad_line c = exact.bad_line

pub returns-clause-no_times : goal.returns-clause-no_times
returns-clause-no_times c = exact.no_times

pub returns-clause-times_too_long : goal.returns-clause-times_too_long
returns-clause-times_too_long c = exact.times_too_long

pub returns-clause-not_times : goal.returns-clause-not_times
returns-clause-not_times c = exact.not_times

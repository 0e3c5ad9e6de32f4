use Rattle.old_copies.proofs.ExactCopy as exact
use Rattle.old_copies.proofs.laws.copy_refusals_are_exact.Goals as goal

pub returns-clause-here : goal.returns-clause-here
returns-clause-here c = exact.here

pub returns-clause-old_here : goal.returns-clause-old_here
returns-clause-old_here c = exact.old_here

pub returns-clause-strange_here : goal.returns-clause-strange_here
returns-clause-strange_here c = exact.strange_here

pub returns-clause-no_store : goal.returns-clause-no_store
returns-clause-no_store c = exact.no_store

pub returns-clause-not_old : goal.returns-clause-not_old
returns-clause-not_old c = exact.not_old

pub returns-clause-unknown_format : goal.returns-clause-unknown_format
returns-clause-unknown_format c = exact.unknown_format

pub returns-clause-bad_count : goal.returns-clause-bad_count
returns-clause-bad_count c = exact.bad_count

pub returns-clause-other_files : goal.returns-clause-other_files
returns-clause-other_files c = exact.other_files

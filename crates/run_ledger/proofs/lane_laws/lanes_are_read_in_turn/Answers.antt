use Rattle.std.proofs.Common.{ap}
use Rattle.run_ledger.specs.Ledger.{failing_after, times_after}
use Rattle.run_ledger.proofs.BehindLemmas.{rows_in_turn, entries_in_turn, shown_in_turn}
use Rattle.run_ledger.proofs.lane_laws.lanes_are_read_in_turn.Goals as goal

pub returns-clause-rows : goal.returns-clause-rows
returns-clause-rows c = rows_in_turn

pub returns-clause-failing : goal.returns-clause-failing
returns-clause-failing c = λ base entries partial events lists few merge. ap (failing_after base) (entries_in_turn entries partial events lists few merge)

pub returns-clause-times : goal.returns-clause-times
returns-clause-times c = λ entries partial events lists few merge. ap times_after (entries_in_turn entries partial events lists few merge)

pub returns-clause-shown : goal.returns-clause-shown
returns-clause-shown c = shown_in_turn

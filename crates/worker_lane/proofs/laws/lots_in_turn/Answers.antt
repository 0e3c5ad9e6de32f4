use Rattle.worker_lane.proofs.LaneLemmas.{keeps_same, keeps_then}
use Rattle.worker_lane.proofs.TurnLemmas.{gives_nothing, gives_more, gives_front, gives_whole, lots_recorded, ending_last, fault_exactly, never_without_memory}
use Rattle.worker_lane.proofs.laws.lots_in_turn.Goals as goal

pub returns-clause-none : goal.returns-clause-none
returns-clause-none c = gives_nothing

pub returns-clause-more : goal.returns-clause-more
returns-clause-more c = gives_more

pub returns-clause-whole : goal.returns-clause-whole
returns-clause-whole c = gives_whole

pub returns-clause-front : goal.returns-clause-front
returns-clause-front c = gives_front

pub returns-clause-recorded : goal.returns-clause-recorded
returns-clause-recorded c = lots_recorded

pub returns-clause-ending : goal.returns-clause-ending
returns-clause-ending c = ending_last

pub returns-clause-fault : goal.returns-clause-fault
returns-clause-fault c = fault_exactly

pub returns-clause-memory : goal.returns-clause-memory
returns-clause-memory c = never_without_memory

pub returns-clause-keeps_none : goal.returns-clause-keeps_none
returns-clause-keeps_none c = keeps_same

pub returns-clause-keeps_more : goal.returns-clause-keeps_more
returns-clause-keeps_more c = keeps_then

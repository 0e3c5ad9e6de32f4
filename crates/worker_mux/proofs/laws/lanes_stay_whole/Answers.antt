use Rattle.worker_mux.proofs.EveryStep as laws
use Rattle.worker_mux.proofs.laws.lanes_stay_whole.Goals as goal

pub returns-clause-pass : goal.returns-clause-pass
returns-clause-pass c = laws.pass_whole

pub returns-clause-lane : goal.returns-clause-lane
returns-clause-lane c = laws.lane_whole

pub returns-clause-settled : goal.returns-clause-settled
returns-clause-settled c = laws.settled_whole

pub returns-clause-of_lanes : goal.returns-clause-of_lanes
returns-clause-of_lanes c = laws.only_lanes

pub returns-clause-one_pass : goal.returns-clause-one_pass
returns-clause-one_pass c = laws.one_pass

pub returns-clause-one_holder : goal.returns-clause-one_holder
returns-clause-one_holder c = laws.one_holder

pub returns-clause-one_taker : goal.returns-clause-one_taker
returns-clause-one_taker c = laws.one_taker

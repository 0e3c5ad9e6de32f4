use Rattle.worker_mux.proofs.OutputLemmas as laws
use Rattle.worker_mux.proofs.laws.outputs_are_merged.Goals as goal

pub returns-clause-told : goal.returns-clause-told
returns-clause-told c = laws.adds_told

pub returns-clause-all_told : goal.returns-clause-all_told
returns-clause-all_told c = laws.adds_outputs

pub returns-clause-one_more : goal.returns-clause-one_more
returns-clause-one_more c = laws.one_lane_more

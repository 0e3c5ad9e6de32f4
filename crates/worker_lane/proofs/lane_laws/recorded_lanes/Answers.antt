use Rattle.worker_lane.proofs.RecordedLaneLemmas.{recorded_own, recorded_joined, merge_read_again}
use Rattle.worker_lane.proofs.lane_laws.recorded_lanes.Goals as goal

pub returns-clause-of_lane : goal.returns-clause-of_lane
returns-clause-of_lane c = recorded_own

pub returns-clause-joined : goal.returns-clause-joined
returns-clause-joined c = recorded_joined

pub returns-clause-read_again : goal.returns-clause-read_again
returns-clause-read_again c = merge_read_again

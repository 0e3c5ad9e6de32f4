use Rattle.packet_codec.proofs.MergeLemmas.{in_one_lane, under_is_in_lane, lists_are_of_lanes, joined_is_merge, turned_is_merge, merge_of_told, packets_of_merge}
use Rattle.packet_codec.proofs.lane_laws.lanes_are_apart.Goals as goal

pub returns-clause-under : goal.returns-clause-under
returns-clause-under c = λ lane e small. under_is_in_lane lane e.route small

pub returns-clause-one_lane : goal.returns-clause-one_lane
returns-clause-one_lane c = λ m n e small also is same. in_one_lane m n e.route small also is same

pub returns-clause-lists : goal.returns-clause-lists
returns-clause-lists c = lists_are_of_lanes

pub returns-clause-joined : goal.returns-clause-joined
returns-clause-joined c = joined_is_merge

pub returns-clause-turned : goal.returns-clause-turned
returns-clause-turned c = turned_is_merge

pub returns-clause-told : goal.returns-clause-told
returns-clause-told c = merge_of_told

pub returns-clause-packets : goal.returns-clause-packets
returns-clause-packets c = packets_of_merge

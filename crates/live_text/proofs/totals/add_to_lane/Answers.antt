use Rattle.std.proofs.Common.{sym, ◌∙◌}
use Rattle.live_text.specs.Totals.{rows_of_lane}
use Rattle.live_text.proofs.TotalLemmas.{of_this_lane, lane_counted, lane_passed}
use Rattle.live_text.proofs.totals.add_to_lane.Goals as goal

pub returns-in_default : goal.returns-in_default
returns-in_default c rows is = lane_passed rows c.args.row.now c.args.lanes.now.items (sym c.lane_of.ensures.lane ∙ c.in_default.is) is

pub returns : goal.returns
returns c rows is =
    let lane = c.in-Some.lane in
    lane_counted rows c.args.row.now c.args.lanes.now.items lane c.in_ok-lanes.field-0 (sym c.lane_of.ensures.lane ∙ c.in-Some.is) c.in-Some.ensures.below is
    (c.in_ok-lanes.ensures (rows_of_lane lane rows) (c.index.ensures ∙ of_this_lane rows c.args.lanes.now.items lane _ is c.in-Some.ensures.below))

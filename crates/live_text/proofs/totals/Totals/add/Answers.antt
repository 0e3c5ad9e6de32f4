use Rattle.live_text.proofs.totals.Totals.add.Goals as goal

pub returns : goal.returns
returns c rows has = record {
  all = c.in_ok-self.ensures rows has.all;
  kinds = c.in_ok-self-2.ensures rows has.kinds;
  lanes = c.in_ok-add_to_lane.ensures rows has.lanes;
}

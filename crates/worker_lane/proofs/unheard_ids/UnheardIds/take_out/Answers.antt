use Rattle.std.proofs.Common.{◌∙◌, ap}
use Rattle.outcome_fold.specs.Order.{among}
use Rattle.worker_lane.specs.Sought.{unheard_of}
use Rattle.worker_lane.proofs.SoughtLemmas.{taken_out, out_is_heard}
use Rattle.worker_lane.proofs.unheard_ids.UnheardIds.take_out.Goals as goal

pub invariant_of-self : goal.invariant_of-self
invariant_of-self c = (c.self.invariant.0, ap (λ l. among l c.args.id) c.remove.ensures ∙ out_is_heard c.self.inside.unheard c.args.id)

pub returns : goal.returns
returns c = rw (← c.self.view_is) (ap (unheard_of c.self.inside.ids.items c.self.inside.passed) c.remove.ensures ∙ taken_out c.self.inside.ids.items c.self.inside.unheard c.self.inside.passed c.args.id)

use Rattle.std.proofs.Common.{sym, ◌∙◌}
use Rattle.worker_lane.proofs.SoughtLemmas.{heard_nothing, heard_one, heard_none}
use Rattle.worker_lane.proofs.unheard_ids.UnheardIds.hear_packet.Goals as goal

pub returns-then-says_nothing : goal.returns-then-says_nothing
returns-then-says_nothing c e spells =
    rw (← c.self.view_is) (heard_nothing c.self.inside.ids.items c.self.inside.unheard c.self.inside.passed c.self.inside.latest e c.self.invariant.1 (c.says_nothing.ensures.yes e spells c.if-says_nothing.true))

pub returns-in-Ok-Some : goal.returns-in-Ok-Some
returns-in-Ok-Some c e spells = c.take_out.ensures ∙ heard_one c.args.self.now c.in-Ok-Some.id e (sym (c.in-Ok-Some.ensures e spells) ∙ c.in-Ok-Some.field-0-is) (c.says_nothing.ensures.no e spells c.if-says_nothing.false)

pub returns-in-Ok-None : goal.returns-in-Ok-None
returns-in-Ok-None c e spells = heard_none c.args.self.now e (sym (c.in-Ok-None.ensures e spells) ∙ c.in-Ok-None.field-0-is)

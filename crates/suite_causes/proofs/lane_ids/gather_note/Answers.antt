use Rattle.std.proofs.Common.{sym, ◌∙◌}
use Rattle.stream_reader.specs.Notes.{event_of}
use Rattle.suite_causes.proofs.RanLemmas.{gathers_none, gathers_one}
use Rattle.suite_causes.proofs.lane_ids.gather_note.Goals as goal

pub returns-in_ok-push-in-Some : goal.returns-in_ok-push-in-Some
returns-in_ok-push-in-Some c = λ events is. gathers_one c.args.lane c.args.ids.now c.push.new.self events (event_of c.args.note) c.in-Some.id (sym c.ran_on.ensures ∙ c.in-Some.is) c.in_ok-push-in-Some.ensures.ok is

pub returns-in-None : goal.returns-in-None
returns-in-None c = λ events is. gathers_none c.args.lane c.args.ids.now events (event_of c.args.note) (sym c.ran_on.ensures ∙ c.in-None.is) is

use Rattle.std.proofs.Common.{sym, ◌∙◌, ap, subst, ◌++◌, map}
use Rattle.std.proofs.lemmas.List.{map_push}
use Rattle.tap_bridge.specs.Events.{events_at, tap_events_so_far, input_of}
use Rattle.tap_bridge.specs.Kept.{HasTakenLines}
use Rattle.tap_bridge.proofs.ReadLemmas.{so_far_push}
use Rattle.tap_bridge.proofs.reader.TapReader.line.Goals as goal

pub returns-clause-so_far : goal.returns-clause-so_far
returns-clause-so_far c lines known =
    let gives = events_at (map input_of lines) (input_of c.args.line.now) in
    so_far_push lines c.args.line.now
    ∙ ap (λ events. tap_events_so_far lines ++ events) (sym (c.in_ok-take_line.ensures.events (map input_of lines) known ∙ ap (λ events. events ++ gives) c.in_ok-events.ensures.items))

pub returns-clause-read : goal.returns-clause-read
returns-clause-read c lines known =
    subst (HasTakenLines c.take_line.new.self) (sym (map_push input_of lines c.args.line.now)) (c.in_ok-take_line.ensures.read (map input_of lines) known)

use Rattle.std.proofs.Common.{refl}
use Rattle.stream_reader.specs.declared.first_note.First.TheVariants.{Packet}
use Rattle.worker_lane.proofs.RecordingLemmas.{first_note_given}
use Rattle.worker_lane.proofs.scribe.Scribe.put_candidate.Goals as goal

pub returns-in-Some-clause-some : goal.returns-in-Some-clause-some
returns-in-Some-clause-some c = λ is.
    let done = c.in_ok-size.ensures in
    let held = rw (← c.self.view_is) at done.held in
    let lane = rw (← c.self.view_is) at done.lane in
    let missing = rw (← c.self.view_is) at done.missing in
    let inside = rw (← c.self.view_is) at done.inside in
    let some = rw (c.in-Some.is) at done.some in
    let puts = rw (← c.self.view_is) at some in
    first_note_given c.args.self.now _ _ (Packet c.in-Some.size) _ _ c.requires.none held lane missing inside puts c.pass.ensures.given c.pass.ensures.ended c.pass.ensures.character refl refl refl

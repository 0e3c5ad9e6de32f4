use Rattle.std.proofs.Common.{refl}
use Rattle.worker_lane.proofs.RecordingLemmas.{first_note_given}
use Rattle.worker_lane.proofs.scribe.Scribe.put_told.Goals as goal

pub returns-clause-some : goal.returns-clause-some
returns-clause-some c = λ is.
    let done = c.in_ok-put_first_of.ensures in
    let held = rw (← c.self.view_is) at done.held in
    let lane = rw (← c.self.view_is) at done.lane in
    let missing = rw (← c.self.view_is) at done.missing in
    let inside = rw (← c.self.view_is) at done.inside in
    let puts = rw (← c.self.view_is) at (done.some c.if-not-branch.false) in
    first_note_given c.args.self.now _ _ c.args.first _ _ c.requires.none held lane missing inside puts c.pass.ensures.given c.pass.ensures.ended c.pass.ensures.character refl refl refl

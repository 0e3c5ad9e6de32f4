use Rattle.std.proofs.Common.{ℕ, [], false, subst, sym}
use Rattle.worker_lane.specs.Scribing.{Recording}
use Rattle.worker_lane.proofs.RecordingLemmas.{recording_start}
use Rattle.worker_lane.proofs.scribe.Scribe.new.Goals as goal

pub returns-clause-recording : goal.returns-clause-recording
returns-clause-recording c = rw (c.in_ok-new.ensures) (subst
    (λ (missing : ℕ). Recording [] (record { lane = c.args.lane; waiting = []; held = record { bytes = []; ended = false }; missing = missing; inside = false }) [])
    (sym c.none.ensures)
    (recording_start c.args.lane c.requires))

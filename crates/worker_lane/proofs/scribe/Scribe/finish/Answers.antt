use Rattle.std.proofs.Common.{◌≡◌, false}
use Rattle.worker_lane.specs.Inside.{ends_inside_behind}
use Rattle.worker_lane.specs.Scribing.{Scribing}
use Rattle.worker_lane.specs.Waiting.{waiting_events}
use Rattle.worker_lane.proofs.RecordingLemmas.{recording_ended, finished_by}
use Rattle.worker_lane.proofs.scribe.Scribe.finish.Goals as goal

pub returns-clause-recording : goal.returns-clause-recording
returns-clause-recording c =
    let going_on : c.self.inside.reader.ended ≡ false = rw (← c.self.view_is) at c.requires in
    let told : c.stands_inside-self-inside.result ≡ ends_inside_behind c.self.inside.character c.self.inside.reader.bytes = rw (← c.self.view_is) at c.stands_inside-self-inside.ensures in
    let before : Scribing = record { lane = c.self.inside.lane; waiting = waiting_events c.self.inside.lane c.self.inside.waiting; held = c.self.inside.reader; missing = c.self.inside.character; inside = c.self.inside.inside } in
    rw (← c.self.view_is) (λ fed written r. recording_ended fed written before _ going_on (finished_by before _ _ c.finish.ensures told) r)

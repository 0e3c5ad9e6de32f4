use Rattle.std.proofs.Common.{rules}
use Rattle.stream_reader.proofs.FrontLemmas.{are_from_fits}
use Rattle.worker_lane.proofs.RecordingLemmas.{recording_fed}
use Rattle.worker_lane.proofs.scribe.Scribe.feed.Goals as goal

pub returns-clause-recording : goal.returns-clause-recording
returns-clause-recording c = λ fed written r. recording_fed fed c.args.piece.now written _ _ (are_from_fits _ c.type_inv.piece) c.requires.going_on (search rules) r

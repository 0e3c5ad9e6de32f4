use Rattle.std.proofs.Common.{refl}
use Rattle.worker_lane.specs.Recorded.{stdout_under}
use Rattle.worker_lane.proofs.EventLemmas.{event_has_packet}
use Rattle.worker_lane.proofs.stdout.put_stdout.Goals as goal

pub put_piece_under-requires-clause-fits : goal.put_piece_under-requires-clause-fits
put_piece_under-requires-clause-fits c = (event_has_packet (stdout_under c.args.lane c.args.bytes.now) c.args.lane c.args.bytes.now refl c.requires.lane c.are_bytes.ensures c.requires.short).fits

pub returns-clause-has_packet : goal.returns-clause-has_packet
returns-clause-has_packet c = event_has_packet (stdout_under c.args.lane c.args.bytes.now) c.args.lane c.args.bytes.now refl c.requires.lane c.are_bytes.ensures c.requires.short

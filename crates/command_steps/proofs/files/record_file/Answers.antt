use Rattle.std.proofs.Common.{ap, ◌∙◌}
use Rattle.command_steps.proofs.FilesLemmas.{file_recorded}
use Rattle.command_steps.proofs.HearLemmas.{stops_same, stops_then}
use Rattle.command_steps.proofs.files.record_file.Goals as goal

pub returns-in_err-scribe-clause-stops : goal.returns-in_err-scribe-clause-stops
returns-in_err-scribe-clause-stops g c = stops_same g.L.Listener.heard g.L.Listener.keeps _

pub returns-clause-recorded : goal.returns-clause-recorded
returns-clause-recorded g c = file_recorded c.args.lane c.args.name.now _ _ _ _ g.L.Listener.heard _ _ _ _ _ _ c.in_ok-record_pieces.ensures.recorded c.in_ok-record_pieces.ensures.going_on c.finish.ensures.ended (c.in_ok-record_pieces.ensures.lane ∙ ap (λ s. s.lane) c.in_ok-scribe.ensures.empty) c.write_packets.result c.write_packets.ensures.written c.write_packets.ensures.none

pub returns-clause-stops : goal.returns-clause-stops
returns-clause-stops g c = stops_then g.L.Listener.heard g.L.Listener.keeps _ _ _ _ c.in_ok-record_pieces.ensures.recorded.was_heard c.write_packets.ensures.stops

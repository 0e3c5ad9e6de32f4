use Rattle.std.proofs.Common.{refl, ◌∙◌, ap}
use Rattle.command_steps.proofs.HearLemmas.{stops_same, stops_behind, stops_then}
use Rattle.command_steps.proofs.Resting.{same_then}
use Rattle.command_steps.proofs.RecordLemmas.{reads_none, write_cause, caused_by, recorded_bytes}
use Rattle.command_steps.proofs.input_recorder.record_input.Goals as goal

pub returns-in_err-scribe-clause-refused : goal.returns-in_err-scribe-clause-refused
returns-in_err-scribe-clause-refused g c = caused_by _ _ _ _ c.from_residual.ensures.1 (record { folder = refl; input = refl }, reads_none _)

pub returns-in_err-scribe-clause-stops : goal.returns-in_err-scribe-clause-stops
returns-in_err-scribe-clause-stops g c = stops_same g.L.Listener.heard g.L.Listener.keeps _

pub returns-in_err-write_packets-clause-refused : goal.returns-in_err-write_packets-clause-refused
returns-in_err-write_packets-clause-refused g c =
    let pieces = c.in_ok-record_pieces.ensures.recorded in
    caused_by _ _ _ _ c.from_residual-in_err-write_packets.ensures.1
    (write_cause _ _ _ _ _ pieces.counts c.in_err-write_packets.ensures.refused (record { bytes = pieces.bytes; read = pieces.read; few = pieces.size }))

pub returns-in_err-write_packets-clause-stops : goal.returns-in_err-write_packets-clause-stops
returns-in_err-write_packets-clause-stops g c = stops_then g.L.Listener.heard g.L.Listener.keeps _ _ _ _ c.in_ok-record_pieces.ensures.recorded.was_heard c.write_packets.ensures.stops

pub returns-clause-recorded : goal.returns-clause-recorded
returns-clause-recorded g c =
    recorded_bytes _ _ _ _ g.L.Listener.heard _ _ _ _ _ _ c.in_ok-record_pieces.ensures.recorded c.in_ok-write_packets.ensures.written c.in_ok-record_pieces.ensures.going_on c.finish.ensures.ended
    (c.in_ok-record_pieces.ensures.lane ∙ ap (λ s. s.lane) c.in_ok-scribe.ensures.empty) c.in_ok-write_packets.ensures.none

pub returns-clause-stops : goal.returns-clause-stops
returns-clause-stops g c = stops_then g.L.Listener.heard g.L.Listener.keeps _ _ _ _ c.in_ok-record_pieces.ensures.recorded.was_heard c.write_packets.ensures.stops

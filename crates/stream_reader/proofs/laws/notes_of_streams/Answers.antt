use Rattle.std.proofs.Common.{◌∙◌, ◌++◌, sym, ap, [], map, arith}
use Rattle.stream_reader.specs.Notes.{notes_of}
use Rattle.stream_reader.proofs.FrontLemmas.{are_before, are_behind}
use Rattle.stream_reader.proofs.ExistLemmas.{some_notes, some_decided}
use Rattle.stream_reader.proofs.RoomLemmas.{decided_few}
use Rattle.stream_reader.proofs.TurnLemmas.{one_notes, one_decided}
use Rattle.stream_reader.proofs.CutLemmas.{open_cut_first}
use Rattle.stream_reader.proofs.NotesLemmas.{decided_first, are_full, are_made, packet_pieces, notes_of_packets, events_of_packets, cut_of_written}
use Rattle.stream_reader.specs.declared.note.Note.TheVariants as note
use Rattle.stream_reader.proofs.laws.notes_of_streams.Goals as goal

pub returns-clause-some : goal.returns-clause-some
returns-clause-some c = some_notes

pub returns-clause-some_decided : goal.returns-clause-some_decided
returns-clause-some_decided c = some_decided

pub returns-clause-decided_few : goal.returns-clause-decided_few
returns-clause-decided_few c = decided_few

pub returns-clause-one_list : goal.returns-clause-one_list
returns-clause-one_list c = one_notes

pub returns-clause-one_decided : goal.returns-clause-one_decided
returns-clause-one_decided c = one_decided

pub returns-clause-decided_first : goal.returns-clause-decided_first
returns-clause-decided_first c = λ bytes more notes others are h k.
    let cut = open_cut_first h.pieces k.pieces bytes more (are_before bytes more are) (are_behind bytes more are) are h.cut k.cut in
    let first = decided_first h.pieces cut.0 [] in
    (first.0, k.made ∙ ap notes_of cut.1 ∙ first.1 ∙ ap (λ l. l ++ first.0) (sym h.made))

pub returns-clause-written : goal.returns-clause-written
returns-clause-written c = λ events are fit. record { pieces = packet_pieces events; cut = cut_of_written events are fit; made = sym (notes_of_packets events) }

pub returns-clause-written_events : goal.returns-clause-written_events
returns-clause-written_events c = λ events are fit.
    (map note.Event events, record { pieces = packet_pieces events; cut = cut_of_written events are fit; made = sym (notes_of_packets events) }, sym (events_of_packets events))

pub returns-clause-full_runs : goal.returns-clause-full_runs
returns-clause-full_runs c = λ bytes notes h. rw (h.made) (are_full h.pieces [] (omega arith))

pub returns-clause-all_bytes : goal.returns-clause-all_bytes
returns-clause-all_bytes c = λ bytes notes h. rw (h.made) (are_made h.pieces [] bytes h.cut)

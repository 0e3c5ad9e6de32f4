-- The rows of a run that is read back.
use Rattle.std.proofs.Common.{◌≡◌, List, [], ◌∷◌, ℕ, ◌+◌, ◌<◌, ◌≤◌, length, arith, All, sym, ap, subst, ◌∙◌}
use Rattle.std.proofs.lemmas.List.Elements.{All-nil, All-append, All-head, All-tail}
use Rattle.packet_codec.specs.declared.event.Event.{Event}
use Rattle.packet_codec.specs.Grammar.{AreBytes}
use Rattle.packet_codec.specs.Canonical.{IsEvent, Fits}
use Rattle.stream_reader.specs.Notes.{HasEvents, notes_of, events_of}
use Rattle.stream_reader.proofs.CutLemmas.{one_cut}
use Rattle.stream_reader.proofs.NotesLemmas.{packet_pieces, notes_of_packets, events_of_packets, cut_of_written}
use Rattle.worker_lane.proofs.NoteLemmas.{AreWritable}
use Rattle.worker_lane.proofs.RecordedLaneLemmas.{have_packets}
use Rattle.outcome_fold.specs.declared.row.Row.{Row}
use Rattle.outcome_fold.specs.Rows.{rows_of}
use Rattle.run_ledger.specs.Reading.{AreRowsOf}
use Rattle.command_steps.specs.Files.{HasRecordedInTurn}
use Rattle.command_steps.specs.Runs.{run_bytes}

-- bytes have one list of events
pub one_events : (bytes : List ℕ) (some others : List Event) → AreBytes bytes → HasEvents bytes some → HasEvents bytes others → some ≡ others
one_events bytes some others are (notes, has, some_are) (notes', has', others_are) =
    some_are ∙ ap events_of (has.made ∙ ap notes_of (one_cut has.pieces has'.pieces bytes are has.cut has'.cut) ∙ sym has'.made) ∙ sym others_are

pub written : (events : List Event) → All IsEvent events → All Fits events → HasEvents (run_bytes events) events
written events are fit = (_, record { pieces = packet_pieces events; cut = cut_of_written events are fit; made = sym (notes_of_packets events) }, sym (events_of_packets events))

-- the rows of a run are those of the events whose packets it is
pub rows_of_written : (run : List ℕ) (events : List Event) (list : List Row) → AreBytes run → All IsEvent events → All Fits events → run ≡ run_bytes events → AreRowsOf run list → list ≡ rows_of events
rows_of_written run events list bytes are fit is rows =
    rows.folded ∙ ap rows_of (one_events run rows.events events bytes rows.told (subst (λ (l : List ℕ). HasEvents l events) (sym is) (written events are fit)))

-- what is recorded of sources in turn has packets
pub have_in_turn : (lane : ℕ) (sources : List (List ℕ)) (events : List Event) → lane + length sources ≤ 64 → All AreBytes sources → HasRecordedInTurn lane sources events → AreWritable events
have_in_turn lane [] events few are none = rw none (record { are_events = All-nil IsEvent; fit = All-nil Fits })
have_in_turn lane (source ∷ sources) events few are (front, rest, is, first, others) =
    let h = have_packets lane source front (omega (arith, few)) (All-head AreBytes source sources are) first in
    let k = have_in_turn (lane + 1) sources rest (omega (arith, few)) (All-tail AreBytes source sources are) others in
    rw is (record { are_events = All-append IsEvent front rest h.are_events k.are_events; fit = All-append Fits front rest h.fit k.fit })

-- The notes of a cut, with runs of foreign bytes at its front.
use Rattle.std.proofs.Common.{◌≡◌, All, ℕ, ◌+◌, ◌≤◌, ◌<◌, List, [], ◌∷◌, ◌++◌, length, map, refl, inl, inr, sym, ap, ◌∙◌, append_assoc, arith}
use Rattle.std.proofs.lemmas.Bool.{cond-true, cond-false, lt-ltb, le-ltb, cases_lt}
use Rattle.std.proofs.lemmas.List.{length-append, append-nil}
use Rattle.std.specs.List.{flat_map}
use Rattle.std.proofs.lemmas.List.Elements.{All-head, All-tail}
use Rattle.packet_codec.specs.Canonical.{IsEvent, Fits, canonical}
use Rattle.packet_codec.proofs.SpellingLemmas.{canonical_spells}
use Rattle.packet_codec.specs.declared.event.Event.{Event}
use Rattle.stream_reader.specs.declared.note.Note.{Note}
use Rattle.stream_reader.specs.declared.note.Note.TheVariants as note
use Rattle.stream_reader.specs.Cut.{Piece, packet, foreign, IsCut}
use Rattle.stream_reader.specs.Stream.{AreMadeOf}
use Rattle.stream_reader.specs.Notes.{foreign_note, notes_behind, notes_of, BeginsForeign, AreFullRuns, events_of}

-- the foreign pieces of a run
abbrev pub foreign_pieces : List ℕ → List Piece
foreign_pieces [] = []
foreign_pieces (byte ∷ run) = foreign byte ∷ foreign_pieces run

-- ---- one byte

pub one_more : (at_end : List ℕ → List Note) (ps : List Piece) (run : List ℕ) (byte : ℕ) → length run + 1 < 65536 → notes_behind at_end (foreign byte ∷ ps) run ≡ notes_behind at_end ps (run ++ byte ∷ [])
one_more at_end ps run byte less = cond-true _ _ _ (lt-ltb (length run + 1) 65536 less)

pub last_one : (at_end : List ℕ → List Note) (ps : List Piece) (run : List ℕ) (byte : ℕ) → 65536 ≤ length run + 1 → notes_behind at_end (foreign byte ∷ ps) run ≡ note.Foreign (run ++ byte ∷ []) ∷ notes_behind at_end ps []
last_one at_end ps run byte full = cond-false _ _ _ (le-ltb (length run + 1) 65536 full)

-- ---- runs

pub run_goes_on : (run : List ℕ) (at_end : List ℕ → List Note) (ps : List Piece) (before : List ℕ) → length before + length run < 65536 → notes_behind at_end (foreign_pieces run ++ ps) before ≡ notes_behind at_end ps (before ++ run)
run_goes_on [] at_end ps before less = ap (notes_behind at_end ps) (sym (append-nil before))
run_goes_on (byte ∷ run) at_end ps before less =
    one_more at_end (foreign_pieces run ++ ps) before byte (omega arith)
    ∙ run_goes_on run at_end ps (before ++ byte ∷ []) (omega (arith, length-append before (byte ∷ [])))
    ∙ ap (notes_behind at_end ps) (append_assoc before (byte ∷ []) run)

pub run_is_full : (run : List ℕ) (at_end : List ℕ → List Note) (ps : List Piece) (before : List ℕ) → 0 < length run → length before + length run ≡ 65536 → notes_behind at_end (foreign_pieces run ++ ps) before ≡ note.Foreign (before ++ run) ∷ notes_behind at_end ps []
run_is_full [] at_end ps before some full = absurd (omega arith)
run_is_full (byte ∷ []) at_end ps before some full = last_one at_end ps before byte (omega arith)
run_is_full (byte ∷ byte' ∷ run) at_end ps before some full =
    one_more at_end (foreign_pieces (byte' ∷ run) ++ ps) before byte (omega arith)
    ∙ run_is_full (byte' ∷ run) at_end ps (before ++ byte ∷ []) (omega arith) (omega (arith, length-append before (byte ∷ [])))
    ∙ ap (λ (l : List ℕ). note.Foreign l ∷ notes_behind at_end ps []) (append_assoc before (byte ∷ []) (byte' ∷ run))

note_of_run : (run : List ℕ) → 0 < length run → foreign_note run ≡ note.Foreign run ∷ []
note_of_run [] some = absurd (omega arith)
note_of_run (byte ∷ run) some = refl

-- a run in front of a packet
pub run_at_packet : (run : List ℕ) (at_end : List ℕ → List Note) (e : Event) (ps : List Piece) → 0 < length run → length run ≤ 65536 → notes_behind at_end (foreign_pieces run ++ packet e ∷ ps) [] ≡ note.Foreign run ∷ notes_behind at_end (packet e ∷ ps) []
run_at_packet run at_end e ps some short = elim (cases_lt (length run) 65536) [
  | inl less ↦ run_goes_on run at_end (packet e ∷ ps) [] (omega arith) ∙ ap (λ (l : List Note). l ++ note.Event e ∷ notes_behind at_end ps []) (note_of_run run some)
  | inr full ↦ run_is_full run at_end (packet e ∷ ps) [] some (omega arith)
]

-- a run in front of the end
pub run_at_end : (run : List ℕ) → 0 < length run → length run ≤ 65536 → notes_of (foreign_pieces run ++ []) ≡ note.Foreign run ∷ []
run_at_end run some short = elim (cases_lt (length run) 65536) [
  | inl less ↦ run_goes_on run foreign_note [] [] (omega arith) ∙ note_of_run run some
  | inr full ↦ run_is_full run foreign_note [] [] some (omega arith)
]

-- ---- the first bytes

pub decided_first : (ps qs : List Piece) (run : List ℕ) → (rest : List Note) × (notes_behind foreign_note (ps ++ qs) run ≡ notes_behind (λ run. []) ps run ++ rest)
decided_first [] qs run = (notes_behind foreign_note qs run, refl)
decided_first (packet e ∷ ps) qs run =
    let next = decided_first ps qs [] in
    (next.0, ap (λ (l : List Note). foreign_note run ++ note.Event e ∷ l) next.1 ∙ sym (append_assoc (foreign_note run) (note.Event e ∷ notes_behind (λ run. []) ps []) next.0))
decided_first (foreign byte ∷ ps) qs run = elim (cases_lt (length run + 1) 65536) [
  | inl less ↦ (
      let next = decided_first ps qs (run ++ byte ∷ []) in
      (next.0, one_more foreign_note (ps ++ qs) run byte less ∙ next.1 ∙ ap (λ (l : List Note). l ++ next.0) (sym (one_more (λ run. []) ps run byte less)))
      )
  | inr full ↦ (
      let next = decided_first ps qs [] in
      (next.0, last_one foreign_note (ps ++ qs) run byte full ∙ ap (λ (l : List Note). note.Foreign (run ++ byte ∷ []) ∷ l) next.1 ∙ ap (λ (l : List Note). l ++ next.0) (sym (last_one (λ run. []) ps run byte full)))
      )
]

-- ---- events alone

abbrev pub packet_pieces : List Event → List Piece
packet_pieces [] = []
packet_pieces (e ∷ events) = packet e ∷ packet_pieces events

pub notes_of_packets : (events : List Event) → notes_of (packet_pieces events) ≡ map note.Event events
notes_of_packets [] = refl
notes_of_packets (e ∷ events) = ap (λ (l : List Note). note.Event e ∷ l) (notes_of_packets events)

pub events_of_packets : (events : List Event) → events_of (map note.Event events) ≡ events
events_of_packets [] = refl
events_of_packets (e ∷ events) = ap (λ (l : List Event). e ∷ l) (events_of_packets events)

-- ---- what notes are

full_note : (run : List ℕ) (notes : List Note) → length run < 65536 → (BeginsForeign notes → length run ≡ 65536) → AreFullRuns notes → AreFullRuns (foreign_note run ++ notes)
full_note [] notes short last full = full
full_note (byte ∷ run) notes short last full = (omega arith, omega arith, last, full)

pub are_full : (ps : List Piece) (run : List ℕ) → length run < 65536 → AreFullRuns (notes_behind foreign_note ps run)
are_full [] run short = rw (← append-nil (foreign_note run)) (full_note run [] short (λ never. absurd never) tt)
are_full (packet e ∷ ps) run short = full_note run (note.Event e ∷ notes_behind foreign_note ps []) short (λ never. absurd never) (are_full ps [] (omega arith))
are_full (foreign byte ∷ ps) run short = elim (cases_lt (length run + 1) 65536) [
  | inl less ↦ rw (one_more foreign_note ps run byte less) (are_full ps (run ++ byte ∷ []) (omega (arith, length-append run (byte ∷ []))))
  | inr full ↦ (
      let len : length (run ++ byte ∷ []) ≡ 65536 = omega (arith, length-append run (byte ∷ [])) in
      rw (last_one foreign_note ps run byte full) (omega arith, omega arith, λ _. len, are_full ps [] (omega arith))
      )
]

made_note : (run bytes : List ℕ) (notes : List Note) → AreMadeOf notes bytes → AreMadeOf (foreign_note run ++ notes) (run ++ bytes)
made_note [] bytes notes made = made
made_note (byte ∷ run) bytes notes made = (byte ∷ run, bytes, refl, refl, made)

pub are_made : (ps : List Piece) (run bytes : List ℕ) → IsCut bytes ps → AreMadeOf (notes_behind foreign_note ps run) (run ++ bytes)
are_made [] run bytes cut = rw (← append-nil (foreign_note run)) (made_note run bytes [] cut)
are_made (packet e ∷ ps) run bytes (rest, found, cut) = made_note run bytes (note.Event e ∷ notes_behind foreign_note ps []) (found.front, rest, found.parts, found.spelled, are_made ps [] rest cut)
are_made (foreign byte ∷ ps) run bytes (rest, none, parts, cut) = elim (cases_lt (length run + 1) 65536) [
  | inl less ↦ rw (one_more foreign_note ps run byte less) (rw whole (are_made ps (run ++ byte ∷ []) rest cut))
  | inr full ↦ rw (last_one foreign_note ps run byte full) (run ++ byte ∷ [], rest, whole, refl, are_made ps [] rest cut)
]
  where
    whole : run ++ bytes ≡ (run ++ byte ∷ []) ++ rest
    whole = ap (λ (l : List ℕ). run ++ l) parts ∙ sym (append_assoc run (byte ∷ []) rest)

pub cut_of_written : (events : List Event) → All IsEvent events → All Fits events → IsCut (flat_map canonical events) (packet_pieces events)
cut_of_written [] are fit = refl
cut_of_written (e ∷ events) are fit = (
  flat_map canonical events,
  record { front = canonical e; parts = refl; spelled = canonical_spells e (All-head IsEvent e events are) (All-head Fits e events fit) },
  cut_of_written events (All-tail IsEvent e events are) (All-tail Fits e events fit),
)

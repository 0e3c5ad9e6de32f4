-- Each stream can be cut.
use Rattle.std.proofs.Common.{◌≡◌, ℕ, zero, suc, ◌≤◌, List, [], ◌∷◌, ◌++◌, length, refl, inl, inr, ap, arith}
use Rattle.std.proofs.lemmas.List.{length-append}
use Rattle.packet_codec.specs.declared.event.Event.{Event}
use Rattle.packet_codec.specs.Packet.{SpellsEvent}
use Rattle.packet_codec.proofs.DecidedLemmas.{Decided, Parted, decided_parts}
use Rattle.packet_codec.proofs.SpelledLemmas.{read_packet}
use Rattle.packet_codec.proofs.AnswerLemmas.{decided_more}
use Rattle.packet_codec.proofs.LookLemmas.{front_of_none}
use Rattle.packet_codec.specs.Grammar.{AreBytes}
use Rattle.stream_reader.specs.declared.note.Note.{Note}
use Rattle.stream_reader.specs.Cut.{Piece, packet, foreign, IsCut, IsOpenCut}
use Rattle.stream_reader.specs.Notes.{notes_of, decided_of, HasNotes, HasDecided}
use Rattle.stream_reader.proofs.FrontLemmas.{packet_some, are_behind}

-- a packet at the front
abbrev AtFront : List ℕ → Type 0
AtFront = Parted (λ front rest. (event : Event) × SpellsEvent front event)

read_front : (bytes : List ℕ) → Decided (AtFront bytes)
read_front = decided_parts (λ front rest. (event : Event) × SpellsEvent front event) (λ front rest. read_packet front)

a_cut : (size : ℕ) (bytes : List ℕ) → length bytes ≤ size → (pieces : List Piece) × IsCut bytes pieces
a_cut size [] short = ([], refl)
a_cut zero (byte ∷ bytes) short = absurd (omega arith)
a_cut (suc size) (byte ∷ bytes) short = elim (read_front (byte ∷ bytes)) [
  | inl found ↦ (
      let some = packet_some found.front found.holds.0 found.holds.1 in
      let next = a_cut size found.rest (omega (arith, some, ap length found.parts, length-append found.front found.rest)) in
      (packet found.holds.0 ∷ next.0, (found.rest, record { front = found.front; parts = found.parts; spelled = found.holds.1 }, next.1))
      )
  | inr never ↦ (
      let next = a_cut size bytes (omega arith) in
      (foreign byte ∷ next.0, (bytes, λ event rest found. never (record { front = found.front; rest = rest; parts = found.parts; holds = (event, found.spelled) }), refl, next.1))
      )
]

pub some_notes : (bytes : List ℕ) → (notes : List Note) × HasNotes bytes notes
some_notes bytes = let cut = a_cut (length bytes) bytes (omega arith) in (notes_of cut.0, record { pieces = cut.0; cut = cut.1; made = refl })

-- ---- the first bytes of a stream

are_left : (front rest bytes : List ℕ) → bytes ≡ front ++ rest → AreBytes bytes → AreBytes rest
are_left front rest bytes parts are = are_behind front rest (rw parts at are)

an_open_cut : (size : ℕ) (bytes : List ℕ) → AreBytes bytes → length bytes ≤ size → (pieces : List Piece) × IsOpenCut bytes pieces
an_open_cut size [] are short = ([], inl (front_of_none [] (omega arith)))
an_open_cut zero (byte ∷ bytes) are short = absurd (omega arith)
an_open_cut (suc size) (byte ∷ bytes) are short = elim (decided_more (byte ∷ bytes) are) [
  | inl more ↦ ([], more)
  | inr closed ↦ elim (read_front (byte ∷ bytes)) [
    | inl found ↦ (
        let some = packet_some found.front found.holds.0 found.holds.1 in
        let next = an_open_cut size found.rest (are_left found.front found.rest (byte ∷ bytes) found.parts are) (omega (arith, some, ap length found.parts, length-append found.front found.rest)) in
        (packet found.holds.0 ∷ next.0, (found.rest, record { front = found.front; parts = found.parts; spelled = found.holds.1 }, next.1))
        )
    | inr never ↦ (
        let next = an_open_cut size bytes (are_left (byte ∷ []) bytes (byte ∷ bytes) refl are) (omega arith) in
        (foreign byte ∷ next.0, (bytes, λ event rest found. never (record { front = found.front; rest = rest; parts = found.parts; holds = (event, found.spelled) }), closed, refl, next.1))
        )
  ]
]

pub some_decided : (bytes : List ℕ) → AreBytes bytes → (notes : List Note) × HasDecided bytes notes
some_decided bytes are = let cut = an_open_cut (length bytes) bytes are (omega arith) in (decided_of cut.0, record { pieces = cut.0; cut = cut.1; made = refl })

-- Where no note is decided, few bytes are held.
use Rattle.std.proofs.Common.{◌≡◌, ℕ, ◌+◌, ◌≤◌, Bool, true, false, List, [], ◌∷◌, ◌++◌, length, inl, inr, sym, ap, ◌∙◌, arith}
use Rattle.std.proofs.lemmas.Bool.{cases_lt}
use Rattle.std.proofs.lemmas.List.{length-append}
use Rattle.packet_codec.specs.Header.{IsHeader, NeedsMore}
use Rattle.packet_codec.proofs.LeastLemmas.{small_of_width}
use Rattle.stream_reader.specs.declared.note.Note.{Note}
use Rattle.stream_reader.specs.declared.note.Note.TheVariants as note
use Rattle.stream_reader.specs.Cut.{Piece, packet, foreign, IsOpenCut}
use Rattle.stream_reader.specs.Notes.{foreign_note, notes_behind, HasDecided}
use Rattle.stream_reader.specs.Room.{most_held}
use Rattle.stream_reader.specs.Stream.{IsSpent}
use Rattle.stream_reader.proofs.NotesLemmas.{one_more, last_one}

header_small : (bytes : List ℕ) (size : ℕ) → (h : IsHeader bytes size) → size ≤ 4194303
header_small bytes size h = small_of_width (length h.number) size h.size_short h.size_spelled.fits

needs_few : (bytes : List ℕ) → NeedsMore bytes → length bytes ≤ 4194302
needs_few bytes (inl front) = omega (arith, ap length front.header.parts, front.header.size_short, length-append bytes front.rest)
needs_few bytes (inr (size, begins, less)) = omega (arith, less, header_small begins.0 size begins.3)

no_event : (run : List ℕ) (first : Note) (notes : List Note) → foreign_note run ++ first ∷ notes ≡ [] → ⊥
no_event run first notes none = omega (arith, ap length none, length-append (foreign_note run) (first ∷ notes))

open_few : (ps : List Piece) (bytes run : List ℕ) → IsOpenCut bytes ps → notes_behind (λ run. []) ps run ≡ [] → length run ≤ 65535 → length run + length bytes ≤ 4259837
open_few [] bytes run cut none short = omega (arith, needs_few bytes cut, short)
open_few (packet e ∷ ps) bytes run (rest, found, cut) none short = absurd (no_event run (note.Event e) (notes_behind (λ run. []) ps []) none)
open_few (foreign byte ∷ ps) bytes run (rest, never, closed, parts, cut) none short = elim (cases_lt (length run + 1) 65536) [
  | inl less ↦ (
      let longer = length-append run (byte ∷ []) in
      omega (arith, ap length parts, longer, open_few ps rest (run ++ byte ∷ []) cut (sym (one_more (λ run. []) ps run byte less) ∙ none) (omega (arith, longer, less)))
      )
  | inr full ↦ absurd (omega (arith, ap length (sym (last_one (λ run. []) ps run byte full) ∙ none)))
]

pub decided_few : (bytes : List ℕ) → HasDecided bytes [] → length bytes ≤ most_held
decided_few bytes h = omega (arith, open_few h.pieces bytes [] h.cut (sym h.made) (omega arith))

pub spent_short : (ended : Bool) (bytes : List ℕ) → ended ≡ false → IsSpent ended bytes → length bytes ≤ most_held
spent_short true bytes going_on spent = absurd cc
spent_short false bytes going_on spent = decided_few bytes spent

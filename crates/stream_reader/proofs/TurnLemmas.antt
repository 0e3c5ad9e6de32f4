-- The notes that a reader gives, one call after another.
use Rattle.std.specs.List.{flat_map}
use Rattle.std.proofs.lemmas.List.Concat.{flat_map-append}
use Rattle.std.proofs.Common.{◌≡◌, ℕ, ◌+◌, ◌<◌, get_or, take, drop, Bool, true, false, List, [], ◌∷◌, ◌++◌, length, refl, sym, ap, ◌∙◌, append_assoc, arith}
use Rattle.std.proofs.lemmas.List.{take-append-drop, append-nil, length-append, take_more}
use Rattle.std.proofs.lemmas.List.Elements.{All-nil}
use Rattle.packet_codec.specs.Grammar.{AreBytes}
use Rattle.stream_reader.specs.declared.note.Note.{Note}
use Rattle.stream_reader.specs.Notes.{notes_of, decided_of, HasNotes, HasDecided}
use Rattle.stream_reader.specs.Stream.{Held, BeginsWithNotes, EndsWithNotes, HasGiven, GivesNote, GivesNotes, IsSpent}
use Rattle.stream_reader.proofs.FrontLemmas.{are_both}
use Rattle.stream_reader.proofs.CutLemmas.{one_cut, one_open_cut}
use Rattle.stream_reader.proofs.ExistLemmas.{some_notes, some_decided}

no_bytes : AreBytes []
no_bytes = All-nil (λ byte. byte < 256)

pub begin_then : (bytes rest left : List ℕ) (given others : List Note) → BeginsWithNotes bytes given rest → BeginsWithNotes rest others left → BeginsWithNotes bytes (given ++ others) left
begin_then bytes rest left given others first second = record {
  notes = λ more last are h. rw (append_assoc given others last) (first.notes more (others ++ last) are (second.notes more last are h));
  decided = λ more last are h. rw (append_assoc given others last) (first.decided more (others ++ last) are (second.decided more last are h));
}

pub begin_fed : (bytes rest more : List ℕ) (given : List Note) → AreBytes more → BeginsWithNotes bytes given rest → BeginsWithNotes (bytes ++ more) given (rest ++ more)
begin_fed bytes rest more given are first = record {
  notes = λ others last are' h. rw (append_assoc bytes more others) (first.notes (more ++ others) last (are_both more others are are') (rw (append_assoc rest more others) at h));
  decided = λ others last are' h. rw (append_assoc bytes more others) (first.decided (more ++ others) last (are_both more others are are') (rw (append_assoc rest more others) at h));
}

pub begin_decided : (bytes rest : List ℕ) (given : List Note) → BeginsWithNotes bytes given rest → HasDecided rest [] → HasDecided bytes given
begin_decided bytes rest given first h =
    let whole : HasDecided (bytes ++ []) (given ++ []) = first.decided [] [] no_bytes (rw (append-nil rest) h) in
    rw (append-nil bytes, append-nil given) at whole

pub begin_ended : (bytes rest : List ℕ) (given : List Note) → BeginsWithNotes bytes given rest → EndsWithNotes bytes given rest
begin_ended bytes rest given first = record {
  notes = λ others h.
      let whole : HasNotes (bytes ++ []) (given ++ others) = first.notes [] others no_bytes (rw (append-nil rest) h) in
      rw (append-nil bytes) at whole;
}

pub end_then : (bytes rest left : List ℕ) (given others : List Note) → EndsWithNotes bytes given rest → EndsWithNotes rest others left → EndsWithNotes bytes (given ++ others) left
end_then bytes rest left given others first second = record { notes = λ last h. rw (append_assoc given others last) (first.notes (others ++ last) (second.notes last h)) }

pub end_whole : (bytes : List ℕ) (given : List Note) → EndsWithNotes bytes given [] → HasNotes bytes given
end_whole bytes given first =
    let whole : HasNotes bytes (given ++ []) = first.notes [] (record { pieces = []; cut = refl; made = refl }) in
    rw (append-nil given) at whole

-- ---- one list, and the notes given are the first of it

pub one_notes : (bytes : List ℕ) (notes others : List Note) → AreBytes bytes → HasNotes bytes notes → HasNotes bytes others → notes ≡ others
one_notes bytes notes others are h k = h.made ∙ ap notes_of (one_cut h.pieces k.pieces bytes are h.cut k.cut) ∙ sym k.made

pub one_decided : (bytes : List ℕ) (notes others : List Note) → AreBytes bytes → HasDecided bytes notes → HasDecided bytes others → notes ≡ others
one_decided bytes notes others are h k = h.made ∙ ap decided_of (one_open_cut h.pieces k.pieces bytes are h.cut k.cut) ∙ sym k.made

pub given_first : (bytes rest more : List ℕ) (given others : List Note) → AreBytes (bytes ++ more) → AreBytes more → BeginsWithNotes bytes given rest → HasNotes (bytes ++ more) others → (last : List Note) × (others ≡ given ++ last)
given_first bytes rest more given others are are' first h =
    let last = some_notes (rest ++ more) in
    (last.0, one_notes (bytes ++ more) others (given ++ last.0) are h (first.notes more last.0 are' last.1))

pub given_decided : (bytes rest more : List ℕ) (given others : List Note) → AreBytes (bytes ++ more) → AreBytes (rest ++ more) → AreBytes more → BeginsWithNotes bytes given rest → HasDecided (bytes ++ more) others → (last : List Note) × (others ≡ given ++ last)
given_decided bytes rest more given others are are_rest are' first h =
    let last = some_decided (rest ++ more) are_rest in
    (last.0, one_decided (bytes ++ more) others (given ++ last.0) are h (first.decided more last.0 are' last.1))

-- ---- several notes

pub gives_none : (ended : Bool) (bytes : List ℕ) → HasGiven ended bytes [] bytes
gives_none false bytes = record { notes = λ more others are h. h; decided = λ more others are h. h }
gives_none true bytes = record { notes = λ others h. h }

pub gives_then : (ended : Bool) (bytes rest left : List ℕ) (given others : List Note) → HasGiven ended bytes given rest → HasGiven ended rest others left → HasGiven ended bytes (given ++ others) left
gives_then false bytes rest left given others first second = begin_then bytes rest left given others first second
gives_then true bytes rest left given others first second = end_then bytes rest left given others first second

pub notes_none : (held : Held) (old : List Note) → GivesNotes held old held old
notes_none held old = record { given = []; new_is = sym (append-nil old); first = gives_none held.ended held.bytes; ended = refl }

pub notes_more : (before held after : Held) (old new : List Note) (next : Note) → GivesNotes before old held new → GivesNote held next after → after.ended ≡ held.ended → GivesNotes before old after (new ++ next ∷ [])
notes_more before held after old new next first second same =
    let step : HasGiven before.ended held.bytes (next ∷ []) after.bytes = rw (first.ended) at second.first in
    record {
      given = first.given ++ next ∷ [];
      new_is = ap (λ (l : List Note). l ++ next ∷ []) first.new_is ∙ append_assoc old first.given (next ∷ []);
      first = gives_then before.ended before.bytes held.bytes after.bytes first.given (next ∷ []) first.first step;
      ended = same ∙ first.ended;
    }

pub note_is_shorter : (held after : Held) (next : Note) → GivesNote held next after → length after.bytes < length held.bytes
note_is_shorter held after next step = omega (arith, step.some, ap length step.parts, length-append step.front after.bytes)

-- ---- a whole stream

pub begin_more : (bytes piece rest : List ℕ) (notes new : List Note) (held after : Held) → AreBytes piece → BeginsWithNotes bytes notes rest → held ≡ record { bytes = rest ++ piece; ended = false } → GivesNotes held notes after new → BeginsWithNotes (bytes ++ piece) new after.bytes
begin_more bytes piece rest notes new held after are before held-is step =
    let first : HasGiven false (rest ++ piece) step.given after.bytes = rw held-is at step.first in
    rw (step.new_is) (begin_then (bytes ++ piece) (rest ++ piece) after.bytes notes step.given (begin_fed bytes rest piece notes are before) first)

pub split_parts : (left part behind : List ℕ) (n : ℕ) → part ≡ take n left → behind ≡ drop n left → left ≡ part ++ behind
split_parts left part behind n front back = rw (front, back) (sym (take-append-drop n left))

-- what is left of a piece is still to be read
abbrev pub IsReadTo : (old : List ℕ) → (before : List Note) → (now : List ℕ) → (notes : List Note) → (piece left : List ℕ) → Type 0
IsReadTo old before now notes piece left = (bytes : List ℕ) → BeginsWithNotes bytes before old → (done : List ℕ) × (piece ≡ done ++ left) × BeginsWithNotes (bytes ++ done) notes now

pub read_none : (old : List ℕ) (before : List Note) (piece : List ℕ) → IsReadTo old before old before piece piece
read_none old before piece bytes first = ([], refl, rw (append-nil bytes) first)

pub read_more : (old now piece left part behind : List ℕ) (before notes new : List Note) (held after : Held) → AreBytes part → left ≡ part ++ behind → held ≡ record { bytes = now ++ part; ended = false } → GivesNotes held notes after new → IsReadTo old before now notes piece left → IsReadTo old before after.bytes new piece behind
read_more old now piece left part behind before notes new held after are parts held-is step so_far bytes first =
    let was = so_far bytes first in (
      was.0 ++ part,
      was.1 ∙ ap (λ (l : List ℕ). was.0 ++ l) parts ∙ sym (append_assoc was.0 part behind),
      rw (← append_assoc bytes was.0 part) (begin_more (bytes ++ was.0) part now notes new held after are was.2 held-is step),
    )

pub read_all : (old now piece left : List ℕ) (before notes : List Note) → length left ≡ 0 → IsReadTo old before now notes piece left → (bytes : List ℕ) → BeginsWithNotes bytes before old → BeginsWithNotes (bytes ++ piece) notes now
read_all old now piece [] before notes none so_far bytes first =
    let was = so_far bytes first in
    let all : piece ≡ was.0 = was.1 ∙ append-nil was.0 in
    rw all was.2
read_all old now piece (byte ∷ left) before notes none so_far bytes first = absurd (omega arith)

pub whole_at_end : (bytes rest : List ℕ) (notes new : List Note) (held after : Held) → BeginsWithNotes bytes notes rest → held ≡ record { bytes = rest; ended = true } → GivesNotes held notes after new → IsSpent after.ended after.bytes → HasNotes bytes new
whole_at_end bytes rest notes new held after before held-is step spent =
    let end : after.ended ≡ true = step.ended ∙ ap (λ (h : Held). h.ended) held-is in
    let none : after.bytes ≡ [] = rw end at spent in
    let last : HasGiven true rest step.given after.bytes = rw held-is at step.first in
    let last' : EndsWithNotes rest step.given [] = rw none at last in
    rw (step.new_is) (end_whole bytes (notes ++ step.given) (end_then bytes rest [] notes step.given (begin_ended bytes rest notes before) last'))

pub pieces_more : (pieces : List (List ℕ)) (i : ℕ) (piece bytes : List ℕ) → i < length pieces → piece ≡ get_or pieces i piece → bytes ≡ piece → flat_map (λ piece. piece) (take (i + 1) pieces) ≡ flat_map (λ piece. piece) (take i pieces) ++ bytes
pieces_more pieces i piece bytes below is same =
    let next : take (i + 1) pieces ≡ take i pieces ++ piece ∷ [] = take_more pieces i piece below ∙ ap (λ (l : List ℕ). take i pieces ++ l ∷ []) (sym is) in
    ap (flat_map (λ piece. piece)) next ∙ flat_map-append (λ piece. piece) (take i pieces) (piece ∷ []) ∙ ap (λ (l : List ℕ). flat_map (λ piece. piece) (take i pieces) ++ l) (append-nil piece ∙ sym same)

-- Notes that are folded as they are given.
use Rattle.std.proofs.Common.{◌≡◌, ◌≤◌, ℕ, true, false, List, [], ◌∷◌, ◌++◌, Result, Ok, Err, IfOk, OnOk, length, refl, sym, ap, ◌∙◌, append_assoc, subst, arith}
use Rattle.std.proofs.lemmas.List.{map-append, append-nil}
use Rattle.packet_codec.specs.declared.event.Event.{Event}
use Rattle.packet_codec.specs.Grammar.{AreBytes}
use Rattle.stream_reader.specs.declared.note.Note.{Note}
use Rattle.stream_reader.specs.Notes.{event_of, events_of}
use Rattle.stream_reader.specs.Stream.{Held, BeginsWithNotes, GivesNote, IsSpent}
use Rattle.stream_reader.proofs.TurnLemmas.{notes_none, notes_more, begin_then, begin_more, whole_at_end}
use Rattle.stream_reader.specs.Room.{most_held}
use Rattle.stream_reader.proofs.RoomLemmas.{spent_short}
use Rattle.outcome_fold.specs.declared.fold.Outcomes.{Outcomes}
use Rattle.outcome_fold.specs.declared.row.Row.{Row}
use Rattle.outcome_fold.specs.Outcome.{HasFolded}
use Rattle.outcome_fold.specs.Rows.{rows_of}
use Rattle.run_ledger.specs.declared.run_reader.RunReader.{RunReader}
use Rattle.run_ledger.specs.Reading.{HasReadBytes, FoldsNotes, AreRowsOf}

pub folds_none : (notes : List Note) (held : Held) (outcomes : Outcomes) → HasFolded outcomes (events_of notes) → FoldsNotes notes held held outcomes
folds_none notes held outcomes folded = record { all = notes; given = notes_none held notes; folded = folded }

pub folds_more : (notes : List Note) (before held after : Held) (old new : Outcomes) (next : Note)
    → FoldsNotes notes before held old → GivesNote held next after → after.ended ≡ held.ended
    → ((seen : List Event) → HasFolded old seen → HasFolded new (seen ++ event_of next ∷ []))
    → FoldsNotes notes before after new
folds_more notes before held after old new next so_far gives same step = record {
  all = so_far.all ++ next ∷ [];
  given = notes_more before held after notes so_far.all next so_far.given gives same;
  folded = subst (HasFolded new) (sym (map-append event_of so_far.all (next ∷ []))) (step (events_of so_far.all) so_far.folded);
}

pub read_more : {T E : Type 0} (r : Result T E) (bytes piece : List ℕ) (run new : RunReader) (held : Held)
    → AreBytes piece → HasReadBytes run bytes → held ≡ record { bytes = run.reader.bytes ++ piece; ended = false }
    → ((notes : List Note) → HasFolded run.outcomes (events_of notes) → OnOk r (FoldsNotes notes held new.reader new.outcomes))
    → OnOk r (HasReadBytes new (bytes ++ piece))
read_more (Err e) bytes piece run new held are read held-is step = tt
read_more (Ok x) bytes piece run new held are read held-is step =
    let folds = step read.notes read.folded in
    record {
      notes = folds.all;
      begins = begin_more bytes piece run.reader.bytes read.notes folds.all held new.reader are read.begins held-is folds.given;
      folded = folds.folded;
    }

-- the same where nothing was fed
pub read_same : {T E : Type 0} (r : Result T E) (bytes : List ℕ) (run new : RunReader)
    → run.reader.ended ≡ false → HasReadBytes run bytes
    → ((notes : List Note) → HasFolded run.outcomes (events_of notes) → OnOk r (FoldsNotes notes run.reader new.reader new.outcomes))
    → OnOk r (HasReadBytes new bytes)
read_same (Err e) bytes run new going_on read step = tt
read_same (Ok x) bytes run new going_on read step =
    let folds = step read.notes read.folded in
    let first : BeginsWithNotes run.reader.bytes folds.given.given new.reader.bytes = rw going_on at folds.given.first in
    record {
      notes = folds.all;
      begins = rw (folds.given.new_is) (begin_then bytes run.reader.bytes new.reader.bytes read.notes folds.given.given read.begins first);
      folded = folds.folded;
    }

-- where all was given that is decided, few bytes are held
pub few_held : {T E : Type 0} (r : Result T E) (held : Held) → held.ended ≡ false → OnOk r (IsSpent held.ended held.bytes) → OnOk r (length held.bytes ≤ most_held)
few_held (Ok x) held going_on spent = spent_short held.ended held.bytes going_on spent
few_held (Err e) held going_on spent = tt

-- what is left of a piece is still to be read
abbrev pub IsReadTo : RunReader → RunReader → (piece left : List ℕ) → Type 0
IsReadTo old now piece left = (bytes : List ℕ) → HasReadBytes old bytes → (done : List ℕ) × (piece ≡ done ++ left) × HasReadBytes now (bytes ++ done)

pub read_to_none : {T E : Type 0} (r : Result T E) (old now : RunReader) (piece : List ℕ) (x : T) → r ≡ Ok x → ((bytes : List ℕ) → HasReadBytes old bytes → OnOk r (HasReadBytes now bytes)) → IsReadTo old now piece piece
read_to_none r old now piece x is step bytes read =
    let read' : HasReadBytes now bytes = rw is at (step bytes read) in
    ([], refl, rw (append-nil bytes) read')

pub read_to_more : {T E : Type 0} (r : Result T E) (old now new : RunReader) (piece left part behind : List ℕ) (x : T) → r ≡ Ok x → left ≡ part ++ behind → ((bytes : List ℕ) → HasReadBytes now bytes → OnOk r (HasReadBytes new (bytes ++ part))) → IsReadTo old now piece left → IsReadTo old new piece behind
read_to_more r old now new piece left part behind x is parts step so_far bytes read =
    let was = so_far bytes read in
    let next : HasReadBytes new ((bytes ++ was.0) ++ part) = rw is at (step (bytes ++ was.0) was.2) in
    (was.0 ++ part, was.1 ∙ ap (λ (l : List ℕ). was.0 ++ l) parts ∙ sym (append_assoc was.0 part behind), rw (← append_assoc bytes was.0 part) next)

pub read_to_end : (old now : RunReader) (piece left : List ℕ) → length left ≡ 0 → IsReadTo old now piece left → (bytes : List ℕ) → HasReadBytes old bytes → HasReadBytes now (bytes ++ piece)
read_to_end old now piece [] none so_far bytes read =
    let was = so_far bytes read in
    let all : piece ≡ was.0 = was.1 ∙ append-nil was.0 in
    rw all was.2
read_to_end old now piece (byte ∷ left) none so_far bytes read = absurd (omega arith)

pub if_ok_then : {A E : Type 0} (P Q : A → Type 0) (r : Result A E) → IfOk r P → ((a : A) → P a → Q a) → IfOk r Q
if_ok_then P Q (Ok a) holds each = each a holds
if_ok_then P Q (Err e) holds each = tt

-- at the end of the run
pub rows_at_end : {E : Type 0} (r : Result (List Row) E) (bytes : List ℕ) (run : RunReader) (held after : Held) (outcomes : Outcomes)
    → HasReadBytes run bytes → held ≡ record { bytes = run.reader.bytes; ended = true }
    → ((notes : List Note) → HasFolded run.outcomes (events_of notes) → FoldsNotes notes held after outcomes)
    → IsSpent after.ended after.bytes
    → ((seen : List Event) → HasFolded outcomes seen → IfOk r (λ rows. rows ≡ rows_of seen))
    → IfOk r (AreRowsOf bytes)
rows_at_end r bytes run held after outcomes read held-is step spent close =
    let folds = step read.notes read.folded in
    let notes = whole_at_end bytes run.reader.bytes read.notes folds.all held after read.begins held-is folds.given spent in
    if_ok_then _ (AreRowsOf bytes) r (close (events_of folds.all) folds.folded) (λ rows is. record { events = events_of folds.all; told = (folds.all, notes, refl); folded = is })

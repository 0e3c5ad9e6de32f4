-- A run that is gathered as it is read.
use Rattle.std.proofs.Common.{◌≡◌, ℕ, ◌+◌, ◌*◌, ◌<◌, ◌≤◌, Bool, true, false, List, [], ◌∷◌, ◌++◌, take, drop, length, Option, Some, None, IfSome, IsSome, IsSomeAnd, Result, Ok, Err, OnOk, refl, sym, ap, ◌∙◌, subst, arith}
use Rattle.std.proofs.Math.Seq.{take-add}
use Rattle.std.proofs.lemmas.List.{map-append, take_all, take-append-drop, length-take, length-drop}
use Rattle.edge_io.specs.Disk.{Folder}
use Rattle.edge_io.specs.Steps.{Goes, Stays}
use Rattle.packet_codec.specs.Grammar.{AreBytes}
use Rattle.packet_codec.specs.declared.event.Event.{Event}
use Rattle.packet_codec.proofs.LeastLemmas.{spelled_fits}
use Rattle.stream_reader.specs.Notes.{event_of, events_of}
use Rattle.stream_reader.specs.Stream.{Held, GivesNote, IsSpent}
use Rattle.stream_reader.specs.declared.note.Note.{Note}
use Rattle.stream_reader.specs.declared.note.Note.TheVariants as note
use Rattle.stream_reader.proofs.TurnLemmas.{notes_none, notes_more, begin_more, whole_at_end}
use Rattle.outcome_fold.specs.declared.row.Row.{Row}
use Rattle.outcome_fold.specs.Rows.{rows_of}
use Rattle.run_shelf.specs.Holds.{FitsFolder}
use Rattle.run_shelf.specs.Repository.{Run, run_at}
use Rattle.run_shelf.proofs.ReadingLemmas.{same_state}
use Rattle.run_shelf.proofs.RunLemmas.{taken_before}
use Rattle.run_ledger.specs.Costs.{bytes_asked, ReadsOnce}
use Rattle.last_failures.specs.declared.gathered_parts.GatheredParts.{GatheredParts}
use Rattle.last_failures.specs.declared.parts.FailedParts.{FailedParts}
use Rattle.last_failures.specs.declared.run_parts.RunParts.{RunParts}
use Rattle.last_failures.specs.Gathering.{HasParts, HasGatheredParts, NoteFits, GathersParts, HasPartsOfBytes, IsGatheredOf, HasPartsOfFront, HasPartsTo, TakesPartsPiece, ReadsPartsOn, HasPartsOfRun}
use Rattle.last_failures.proofs.PartLemmas.{passes, held_for}

-- ---- one note

-- what a reader gives has a packet
pub fits_given : (before after : Held) (next : Note) → GivesNote before next after → NoteFits next
fits_given before after (note.Event event) gives = spelled_fits gives.front event gives.made
fits_given before after (note.Foreign bytes) gives = tt

-- foreign bytes speak of no test
pub foreign_passes : (wanted : List (List ℕ)) (seen : List Event) (bytes : List ℕ) (parts : FailedParts) → HasParts wanted parts seen → HasParts wanted parts (seen ++ event_of (note.Foreign bytes) ∷ [])
foreign_passes wanted seen bytes parts has = passes wanted seen (event_of (note.Foreign bytes)) refl parts has

-- ---- all notes

pub gathers_none : (wanted : List (List ℕ)) (notes : List Note) (held : Held) (gathered : GatheredParts) → HasGatheredParts wanted gathered (events_of notes) → GathersParts wanted notes held held gathered
gathers_none wanted notes held gathered is = record { all = notes; given = notes_none held notes; gathered_is = is }

pub gathers_more : (wanted : List (List ℕ)) (notes : List Note) (before held after : Held) (old new : GatheredParts) (next : Note)
    → GathersParts wanted notes before held old → GivesNote held next after → after.ended ≡ held.ended
    → ((seen : List Event) → HasGatheredParts wanted old seen → HasGatheredParts wanted new (seen ++ event_of next ∷ []))
    → GathersParts wanted notes before after new
gathers_more wanted notes before held after old new next so_far gives same step = record {
  all = so_far.all ++ next ∷ [];
  given = notes_more before held after notes so_far.all next so_far.given gives same;
  gathered_is = subst (HasGatheredParts wanted new) (sym (map-append event_of so_far.all (next ∷ []))) (step (events_of so_far.all) so_far.gathered_is);
}

-- ---- a run

pub piece_gathered : {T E : Type 0} (r : Result T E) (wanted : List (List ℕ)) (bytes piece : List ℕ) (run new : RunParts) (held : Held)
    → AreBytes piece → HasPartsOfBytes wanted run bytes → held ≡ record { bytes = run.reader.bytes ++ piece; ended = false }
    → ((notes : List Note) → HasGatheredParts wanted run.gathered (events_of notes) → OnOk r (GathersParts wanted notes held new.reader new.gathered))
    → OnOk r (HasPartsOfBytes wanted new (bytes ++ piece))
piece_gathered (Err e) wanted bytes piece run new held are has held-is step = tt
piece_gathered (Ok x) wanted bytes piece run new held are has held-is step =
    let gathers = step has.notes has.gathered_is in
    record {
      notes = gathers.all;
      begins = begin_more bytes piece run.reader.bytes has.notes gathers.all held new.reader are has.begins held-is gathers.given;
      gathered_is = gathers.gathered_is;
    }

pub gathered_at_end : (wanted : List (List ℕ)) (bytes : List ℕ) (run : RunParts) (held after : Held) (gathered : GatheredParts) (rows : List Row)
    → HasPartsOfBytes wanted run bytes → held ≡ record { bytes = run.reader.bytes; ended = true }
    → ((notes : List Note) → HasGatheredParts wanted run.gathered (events_of notes) → GathersParts wanted notes held after gathered)
    → IsSpent after.ended after.bytes
    → ((events : List Event) → HasGatheredParts wanted gathered events → rows ≡ rows_of events)
    → IsGatheredOf wanted (record { rows = rows; parts = gathered.parts }) bytes
gathered_at_end wanted bytes run held after gathered rows has held-is step spent close =
    let gathers = step has.notes has.gathered_is in
    let notes = whole_at_end bytes run.reader.bytes has.notes gathers.all held after has.begins held-is gathers.given spent in
    let events : List Event = events_of gathers.all in
    record {
      events = events;
      told = (gathers.all, notes, refl);
      rows_are = close events gathers.gathered_is;
      packets_are = λ row. held_for wanted gathered.parts events row gathers.gathered_is.parts;
    }

-- ---- a run of a folder, piece by piece

-- nothing was read of a run that there is
pub read_none : (state : Option Folder) (kinds : List Bool) (wanted : List (List ℕ)) (number place : ℕ) (run : RunParts) → place ≡ 0 → number < length kinds → HasPartsOfBytes wanted run [] → IfSome state (FitsFolder kinds) → IfSome state (HasPartsTo wanted number place run)
read_none None kinds wanted number place run zero known fresh fits = tt
read_none (Some s) kinds wanted number place run zero known fresh fits = there (run_at s.disk.published number) (taken_before s.disk.published kinds fits.kinds_are number known)
  where
    there : (o : Option Run) → IsSome o → IsSomeAnd o (HasPartsOfFront wanted place run)
    there None is = cc
    there (Some r) is = (omega (arith, zero), subst (λ (n : ℕ). HasPartsOfBytes wanted run (take n r.bytes)) (sym zero) fresh)

module _ (wanted : List (List ℕ)) (place room count : ℕ) (old new : RunParts) (r : Run) (front : HasPartsOfFront wanted place old r) (more : TakesPartsPiece wanted place room count old new r) where
  front_more : (next : ℕ) → next ≡ place + room → room ≤ count → HasPartsOfFront wanted next new r
  front_more next is full = (
    omega (arith, is, full, more.size, length-take room (drop place r.bytes), length-drop place r.bytes, front.0),
    subst (HasPartsOfBytes wanted new) (sym (take-add place room r.bytes) ∙ ap (λ (n : ℕ). take n r.bytes) (sym is)) (more.read (take place r.bytes) front.1),
  )

  front_whole : count < room → HasPartsOfBytes wanted new r.bytes
  front_whole less =
      let rest : take room (drop place r.bytes) ≡ drop place r.bytes = take_all room (drop place r.bytes) (omega (arith, less, more.size, length-take room (drop place r.bytes), length-drop place r.bytes)) in
      subst (HasPartsOfBytes wanted new) (ap (λ (l : List ℕ). take place r.bytes ++ l) rest ∙ take-append-drop place r.bytes) (more.read (take place r.bytes) front.1)

some_both : {A : Type 0} (o : Option A) (P Q R : A → Type 0) → IsSomeAnd o P → IsSomeAnd o Q → ((a : A) → P a → Q a → R a) → IsSomeAnd o R
some_both None P Q R p q each = p
some_both (Some a) P Q R p q each = each a p q

if_both : {A : Type 0} (o : Option A) (P Q R : A → Type 0) → IfSome o P → IfSome o Q → ((a : A) → P a → Q a → R a) → IfSome o R
if_both None P Q R p q each = tt
if_both (Some a) P Q R p q each = each a p q

module _ (first before : Option Folder) (wanted : List (List ℕ)) (number place room count : ℕ) (old new : RunParts)
    (read : IfSome first (HasPartsTo wanted number place old)) (same : Goes first before Stays) (more : IfSome before (ReadsPartsOn wanted number place room count old new)) where
  more_of : IfSome first (ReadsPartsOn wanted number place room count old new)
  more_of = subst (λ (o : Option Folder). IfSome o (ReadsPartsOn wanted number place room count old new)) (same_state first before same) more

  -- one piece more
  pub read_on : (next : ℕ) → next ≡ place + room → room ≤ count → IfSome first (HasPartsTo wanted number next new)
  read_on next is full =
      if_both first (HasPartsTo wanted number place old) (ReadsPartsOn wanted number place room count old new) (HasPartsTo wanted number next new) read more_of
      (λ s p q. some_both (run_at s.disk.published number) (HasPartsOfFront wanted place old) (TakesPartsPiece wanted place room count old new) (HasPartsOfFront wanted next new) p q (λ r front takes. front_more wanted place room count old new r front takes next is full))

  -- the last piece
  pub read_last : count < room → IfSome first (HasPartsOfRun wanted number new)
  read_last less =
      if_both first (HasPartsTo wanted number place old) (ReadsPartsOn wanted number place room count old new) (HasPartsOfRun wanted number new) read more_of
      (λ s p q. some_both (run_at s.disk.published number) (HasPartsOfFront wanted place old) (TakesPartsPiece wanted place room count old new) (λ r. HasPartsOfBytes wanted new r.bytes) p q (λ r front takes. front_whole wanted place room count old new r front takes less))

-- the calls so far, and one more
pub within_once : (state : Option Folder) (wanted : List (List ℕ)) (number pieces before now : ℕ) (run : RunParts) → now ≤ before + pieces + 1 → IfSome state (HasPartsTo wanted number (pieces * 65536) run) → IfSome state (ReadsOnce number before now)
within_once None wanted number pieces before now run few read = tt
within_once (Some s) wanted number pieces before now run few read = there (run_at s.disk.published number) read
  where
    there : (o : Option Run) → IsSomeAnd o (HasPartsOfFront wanted (pieces * 65536) run) → IfSome o (λ r. now * 65536 ≤ before * 65536 + bytes_asked r)
    there None is = tt
    there (Some r) is = omega (arith, few, is.0)

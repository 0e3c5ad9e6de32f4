-- The tests that began to run on a lane, as a run is read.
use Rattle.std.proofs.Common.{◌≡◌, ℕ, ◌+◌, ◌<◌, ◌≤◌, Bool, true, false, cond, Option, Some, None, IfSome, IsSome, IsSomeAnd, Result, Ok, Err, IfOk, OnOk, List, [], ◌∷◌, ◌++◌, take, drop, length, refl, sym, ap, ◌∙◌, subst, arith}
use Rattle.std.specs.List.{filter_map, cons_option}
use Rattle.std.proofs.Math.Seq.{take-add}
use Rattle.std.proofs.lemmas.List.{map-append, append-nil, take_all, take-append-drop, length-take, length-drop}
use Rattle.std.proofs.lemmas.List.Elements.{filter-append, filter_map-append}
use Rattle.edge_io.specs.Disk.{Folder}
use Rattle.edge_io.specs.Steps.{Goes, Stays}
use Rattle.packet_codec.specs.Grammar.{AreBytes}
use Rattle.packet_codec.specs.Lanes.{is_of_lane, of_lane}
use Rattle.packet_codec.specs.declared.event.Event.{Event}
use Rattle.run_shelf.proofs.ReadingLemmas.{same_state}
use Rattle.run_shelf.proofs.RunLemmas.{taken_before}
use Rattle.run_shelf.specs.Holds.{FitsFolder}
use Rattle.run_shelf.specs.Repository.{Run, run_at}
use Rattle.stream_reader.proofs.TurnLemmas.{notes_none, notes_more, begin_more, whole_at_end}
use Rattle.stream_reader.specs.Notes.{event_of, events_of}
use Rattle.stream_reader.specs.Stream.{Held, GivesNote, IsSpent}
use Rattle.stream_reader.specs.declared.note.Note.{Note}
use Rattle.suite_plan.specs.Firsts.{firsts}
use Rattle.suite_causes.specs.Ran.{all_ran, ran_on, AreRan, GathersRanIds, HasRanIds, HasRanIdsOfFront, HasRanIdsTo, TakesRanIdsPiece, ReadsRanIdsOn, HasRanIdsOfRun}
use Rattle.suite_causes.specs.Searching.{TestIds}
use Rattle.suite_causes.specs.Suspects.{ran_id}
use Rattle.suite_causes.specs.declared.ran_reader.RanReader.{RanReader}

-- ---- one note

of_one : (lane : ℕ) (event : Event) (own : Bool) → filter_map ran_id (cond own (event ∷ []) []) ≡ cons_option (cond own (ran_id event) None) []
of_one lane event true = refl
of_one lane event false = refl

ran_push : (lane : ℕ) (events : List Event) (event : Event) → all_ran lane (events ++ event ∷ []) ≡ all_ran lane events ++ cons_option (ran_on lane event) []
ran_push lane events event =
    ap (filter_map ran_id) (filter-append (is_of_lane lane) events (event ∷ []))
    ∙ filter_map-append ran_id (of_lane lane events) (cond (is_of_lane lane event) (event ∷ []) [])
    ∙ ap (λ l. all_ran lane events ++ l) (of_one lane event (is_of_lane lane event))

pub gathers_none : (lane : ℕ) (ids : TestIds) (events : List Event) (event : Event) → ran_on lane event ≡ None → ids ≡ all_ran lane events → ids ≡ all_ran lane (events ++ event ∷ [])
gathers_none lane ids events event none is =
    is ∙ sym (append-nil (all_ran lane events)) ∙ ap (λ o. all_ran lane events ++ cons_option o []) (sym none) ∙ sym (ran_push lane events event)

pub gathers_one : (lane : ℕ) (ids new : TestIds) (events : List Event) (event : Event) (id : List ℕ) → ran_on lane event ≡ Some id → new ≡ ids ++ id ∷ [] → ids ≡ all_ran lane events → new ≡ all_ran lane (events ++ event ∷ [])
gathers_one lane ids new events event id one pushed is =
    pushed ∙ ap (λ l. l ++ id ∷ []) is ∙ ap (λ o. all_ran lane events ++ cons_option o []) (sym one) ∙ sym (ran_push lane events event)

-- ---- all notes

pub gathered_none : (lane : ℕ) (notes : List Note) (held : Held) (ids : TestIds) → ids ≡ all_ran lane (events_of notes) → GathersRanIds lane notes held held ids
gathered_none lane notes held ids is = record { all = notes; given = notes_none held notes; ids_are = is }

pub gathered_more : (lane : ℕ) (notes : List Note) (before held after : Held) (old new : TestIds) (next : Note)
    → GathersRanIds lane notes before held old → GivesNote held next after → after.ended ≡ held.ended
    → ((events : List Event) → old ≡ all_ran lane events → new ≡ all_ran lane (events ++ event_of next ∷ []))
    → GathersRanIds lane notes before after new
gathered_more lane notes before held after old new next so_far gives same step = record {
  all = so_far.all ++ next ∷ [];
  given = notes_more before held after notes so_far.all next so_far.given gives same;
  ids_are = subst (λ l. new ≡ all_ran lane l) (sym (map-append event_of so_far.all (next ∷ []))) (step (events_of so_far.all) so_far.ids_are);
}

-- ---- a run

pub piece_gathered : {T E : Type 0} (r : Result T E) (lane : ℕ) (bytes piece : List ℕ) (ran new : RanReader) (held : Held)
    → AreBytes piece → HasRanIds lane ran bytes → held ≡ record { bytes = ran.reader.bytes ++ piece; ended = false } → new.lane ≡ ran.lane
    → ((notes : List Note) → ran.ids ≡ all_ran ran.lane (events_of notes) → OnOk r (GathersRanIds ran.lane notes held new.reader new.ids))
    → OnOk r (HasRanIds lane new (bytes ++ piece))
piece_gathered (Err e) lane bytes piece ran new held are has held-is same step = tt
piece_gathered (Ok x) lane bytes piece ran new held are has held-is same step =
    let gathers = step has.notes (subst (λ n. ran.ids ≡ all_ran n (events_of has.notes)) (sym has.lane_is) has.ids_are) in
    record {
      notes = gathers.all;
      lane_is = same ∙ has.lane_is;
      begins = begin_more bytes piece ran.reader.bytes has.notes gathers.all held new.reader are has.begins held-is gathers.given;
      ids_are = subst (λ n. new.ids ≡ all_ran n (events_of gathers.all)) has.lane_is gathers.ids_are;
    }

pub ids_at_end : {E : Type 0} (r : Result TestIds E) (lane : ℕ) (bytes : List ℕ) (ran : RanReader) (held after : Held) (ids : TestIds)
    → HasRanIds lane ran bytes → held ≡ record { bytes = ran.reader.bytes; ended = true }
    → ((notes : List Note) → ran.ids ≡ all_ran ran.lane (events_of notes) → GathersRanIds ran.lane notes held after ids)
    → IsSpent after.ended after.bytes → IfOk r (λ list. list ≡ firsts ids) → IfOk r (AreRan lane bytes)
ids_at_end (Err e) lane bytes ran held after ids has held-is step spent close = tt
ids_at_end (Ok list) lane bytes ran held after ids has held-is step spent close =
    let gathers = step has.notes (subst (λ n. ran.ids ≡ all_ran n (events_of has.notes)) (sym has.lane_is) has.ids_are) in
    let notes = whole_at_end bytes ran.reader.bytes has.notes gathers.all held after has.begins held-is gathers.given spent in
    record {
      events = events_of gathers.all;
      told = (gathers.all, notes, refl);
      ids_are = close ∙ ap firsts (gathers.ids_are ∙ ap (λ n. all_ran n (events_of gathers.all)) has.lane_is);
    }

-- ---- a run of a folder, piece by piece

-- nothing was read of a run that there is
pub read_none : (state : Option Folder) (kinds : List Bool) (number lane place : ℕ) (ran : RanReader) → place ≡ 0 → number < length kinds → HasRanIds lane ran [] → IfSome state (FitsFolder kinds) → IfSome state (HasRanIdsTo number lane place ran)
read_none None kinds number lane place ran zero known fresh fits = tt
read_none (Some s) kinds number lane place ran zero known fresh fits = there (run_at s.disk.published number) (taken_before s.disk.published kinds fits.kinds_are number known)
  where
    there : (o : Option Run) → IsSome o → IsSomeAnd o (HasRanIdsOfFront lane place ran)
    there None is = cc
    there (Some r) is = (omega (arith, zero), subst (λ (n : ℕ). HasRanIds lane ran (take n r.bytes)) (sym zero) fresh)

module _ (lane place room count : ℕ) (old new : RanReader) (r : Run) (front : HasRanIdsOfFront lane place old r) (more : TakesRanIdsPiece lane place room count old new r) where
  front_more : (next : ℕ) → next ≡ place + room → room ≤ count → HasRanIdsOfFront lane next new r
  front_more next is full = (
    omega (arith, is, full, more.size, length-take room (drop place r.bytes), length-drop place r.bytes, front.0),
    subst (HasRanIds lane new) (sym (take-add place room r.bytes) ∙ ap (λ (n : ℕ). take n r.bytes) (sym is)) (more.read (take place r.bytes) front.1),
  )

  front_whole : count < room → HasRanIds lane new r.bytes
  front_whole less =
      let rest : take room (drop place r.bytes) ≡ drop place r.bytes = take_all room (drop place r.bytes) (omega (arith, less, more.size, length-take room (drop place r.bytes), length-drop place r.bytes)) in
      subst (HasRanIds lane new) (ap (λ (l : List ℕ). take place r.bytes ++ l) rest ∙ take-append-drop place r.bytes) (more.read (take place r.bytes) front.1)

some_both : {A : Type 0} (o : Option A) (P Q R : A → Type 0) → IsSomeAnd o P → IsSomeAnd o Q → ((a : A) → P a → Q a → R a) → IsSomeAnd o R
some_both None P Q R p q each = p
some_both (Some a) P Q R p q each = each a p q

if_both : {A : Type 0} (o : Option A) (P Q R : A → Type 0) → IfSome o P → IfSome o Q → ((a : A) → P a → Q a → R a) → IfSome o R
if_both None P Q R p q each = tt
if_both (Some a) P Q R p q each = each a p q

module _ (first before : Option Folder) (number lane place room count : ℕ) (old new : RanReader)
    (read : IfSome first (HasRanIdsTo number lane place old)) (same : Goes first before Stays) (more : IfSome before (ReadsRanIdsOn number lane place room count old new)) where
  more_of : IfSome first (ReadsRanIdsOn number lane place room count old new)
  more_of = subst (λ (o : Option Folder). IfSome o (ReadsRanIdsOn number lane place room count old new)) (same_state first before same) more

  -- one piece more
  pub read_on : (next : ℕ) → next ≡ place + room → room ≤ count → IfSome first (HasRanIdsTo number lane next new)
  read_on next is full =
      if_both first (HasRanIdsTo number lane place old) (ReadsRanIdsOn number lane place room count old new) (HasRanIdsTo number lane next new) read more_of
      (λ s p q. some_both (run_at s.disk.published number) (HasRanIdsOfFront lane place old) (TakesRanIdsPiece lane place room count old new) (HasRanIdsOfFront lane next new) p q (λ r front takes. front_more lane place room count old new r front takes next is full))

  -- the last piece
  pub read_last : count < room → IfSome first (HasRanIdsOfRun number lane new)
  read_last less =
      if_both first (HasRanIdsTo number lane place old) (ReadsRanIdsOn number lane place room count old new) (HasRanIdsOfRun number lane new) read more_of
      (λ s p q. some_both (run_at s.disk.published number) (HasRanIdsOfFront lane place old) (TakesRanIdsPiece lane place room count old new) (λ r. HasRanIds lane new r.bytes) p q (λ r front takes. front_whole lane place room count old new r front takes less))

-- Notes that are taken, and their events handed on.
use Rattle.std.proofs.Common.{◌≡◌, ℕ, ◌+◌, ◌<◌, ◌≤◌, ◌||◌, Bool, true, false, List, [], ◌∷◌, ◌++◌, length, refl, sym, ap, subst, ◌∙◌, arith, append_assoc, length-append}
use Rattle.std.specs.Prelude.{codes}
use Rattle.std.specs.List.{list_any}
use Rattle.std.proofs.lemmas.Bool.Decides.{nat_tests}
use Rattle.std.proofs.lemmas.List.{map-append, append-nil}
use Rattle.std.proofs.lemmas.List.Elements.{All-nil}
use Rattle.std.proofs.lemmas.List.Folds.{list_any-append}
use Rattle.sub_number.specs.Numbers.{shortest_number}
use Rattle.packet_codec.specs.Grammar.{AreBytes}
use Rattle.packet_codec.specs.declared.event.Event.{Event}
use Rattle.packet_codec.specs.Canonical.{IsEvent, Fits, canonical, canonical_text, canonical_fields, packet_size}
use Rattle.packet_codec.proofs.ShortestLemmas.{length_shortest_number, shortest_size_range}
use Rattle.packet_codec.proofs.WritingLemmas.{length_canonical_fields}
use Rattle.packet_codec.proofs.LeastLemmas.{spelled_fits}
use Rattle.stream_reader.specs.declared.note.Note.{Note}
use Rattle.stream_reader.specs.declared.note.Note.TheVariants as note
use Rattle.stream_reader.specs.Notes.{stdout_event, event_of, events_of, HasNotes, HasEvents, AreFullRuns}
use Rattle.stream_reader.specs.Stream.{Held, HasGiven, GivesNote, IsSpent}
use Rattle.stream_reader.proofs.ExistLemmas.{some_notes}
use Rattle.stream_reader.proofs.NotesLemmas.{are_full}
use Rattle.stream_reader.proofs.TurnLemmas.{notes_none, notes_more, begin_more, whole_at_end}
use Rattle.old_runs.specs.declared.stream.OldStream.{OldStream}
use Rattle.old_runs.specs.Files.{has_id}
use Rattle.old_runs.specs.Giving.{AppendsEvents}
use Rattle.old_runs.specs.Streams.{HasFedStream, HandsOnNotes}
use Rattle.old_runs.proofs.PacketLemmas.{gives_none, gives_this, gives_then, gives_so}

-- ---- each note has a packet

packet_size_most : (n : ℕ) → packet_size n ≤ n + 10
packet_size_most n = grind (arith, nat_tests)

length_counted : (bytes : List ℕ) → length (canonical_text bytes) ≤ length bytes + 4
length_counted bytes = omega (arith, length-append (shortest_number (length bytes)) bytes, length_shortest_number (length bytes), shortest_size_range (length bytes))

output_fits : (bytes : List ℕ) → length bytes ≤ 65536 → Fits (stdout_event bytes)
output_fits bytes short = record {
  size = omega (
    arith,
    packet_size_most (length (canonical_fields (stdout_event bytes))),
    length_canonical_fields (stdout_event bytes),
    length-append (canonical_text (codes "stdout")) (canonical_text bytes),
    length_counted (codes "stdout"),
    length_counted bytes,
    short,
  );
}

first_short : (bytes run : List ℕ) (others : List Note) → HasNotes bytes (note.Foreign run ∷ others) → length run ≤ 65536
first_short bytes run others h =
    let full : AreFullRuns (note.Foreign run ∷ others) = subst AreFullRuns (sym h.made) (are_full h.pieces [] (omega arith)) in
    full.1

foreign_short : (ended : Bool) (bytes rest run : List ℕ) → HasGiven ended bytes (note.Foreign run ∷ []) rest → length run ≤ 65536
foreign_short true bytes rest run gives = let some = some_notes rest in first_short bytes run some.0 (gives.notes some.0 some.1)
foreign_short false bytes rest run gives =
    let some = some_notes (rest ++ []) in
    first_short (bytes ++ []) run some.0 (gives.notes [] some.0 (All-nil (λ byte. byte < 256)) some.1)

pub note_fits : (before after : Held) (next : Note) → GivesNote before next after → Fits (event_of next)
note_fits before after (note.Event event) gives = spelled_fits gives.front event gives.made
note_fits before after (note.Foreign run) gives = output_fits run (foreign_short before.ended before.bytes after.bytes run gives.first)

-- ---- notes in turn

or_none : (b : Bool) → (b || false) ≡ b
or_none true = refl
or_none false = refl

pub takes_none : (notes : List Note) (stream : OldStream) (old : List ℕ) → stream.told ≡ list_any has_id (events_of notes) → HandsOnNotes notes stream stream old old
takes_none notes stream old told = record { all = notes; given = notes_none stream.reader notes; told = told; put = gives_none (λ (events : List Event). events_of notes ≡ events) old (events_of notes) refl }

pub takes_more : (notes : List Note) (before now after : OldStream) (old mid new : List ℕ) (next : Note) (told : Bool) → HandsOnNotes notes before now old mid → GivesNote now.reader next after.reader → after.reader.ended ≡ now.reader.ended
    → IsEvent (event_of next) → new ≡ mid ++ canonical (event_of next) → told ≡ has_id (event_of next) → after.told ≡ (now.told || told) → HandsOnNotes notes before after old new
takes_more notes before now after old mid new next told so_far gives same is grown tells both =
    let all : events_of (so_far.all ++ next ∷ []) ≡ events_of so_far.all ++ event_of next ∷ [] = map-append event_of so_far.all (next ∷ []) in
    record {
      all = so_far.all ++ next ∷ [];
      given = notes_more before.reader now.reader after.reader notes so_far.all next so_far.given gives same;
      told = both ∙ (λ i. so_far.told i || tells i) ∙ sym (ap (list_any has_id) all ∙ list_any-append has_id (events_of so_far.all) (event_of next ∷ []) ∙ ap (λ b. list_any has_id (events_of so_far.all) || b) (or_none (has_id (event_of next))));
      put = gives_then (λ (events : List Event). events_of so_far.all ≡ events) (λ (events : List Event). events_of (so_far.all ++ next ∷ []) ≡ events) old mid new (events_of notes) so_far.put
          (λ events made. gives_this (λ (more : List Event). events_of (so_far.all ++ next ∷ []) ≡ events ++ more) mid new (event_of next) is (note_fits now.reader after.reader next gives) grown
          (all ∙ ap (λ (l : List Event). l ++ event_of next ∷ []) made));
    }

-- ---- bytes of a stream

pub stream_more : (before mid after : OldStream) (bytes part old new : List ℕ) (given : List Event) → AreBytes part → HasFedStream before bytes given → mid.reader ≡ record { bytes = before.reader.bytes ++ part; ended = false } → mid.told ≡ before.told
    → ((notes : List Note) → mid.told ≡ list_any has_id (events_of notes) → HandsOnNotes notes mid after old new) → AppendsEvents old new (λ more. HasFedStream after (bytes ++ part) (given ++ more))
stream_more before mid after bytes part old new given are h held same takes =
    let t = takes h.notes (same ∙ h.told ∙ ap (list_any has_id) h.made) in
    gives_so (λ more. events_of t.all ≡ events_of h.notes ++ more) (λ more. HasFedStream after (bytes ++ part) (given ++ more)) old new t.put (λ more is.
    let made : given ++ more ≡ events_of t.all = ap (λ (l : List Event). l ++ more) h.made ∙ sym is in
    record {
      notes = t.all;
      begins = begin_more bytes part before.reader.bytes h.notes t.all mid.reader after.reader are h.begins held t.given;
      made = made;
      told = t.told ∙ ap (list_any has_id) (sym made);
    })

-- at its end
pub stream_end : (before mid after : OldStream) (bytes old new : List ℕ) (given : List Event) → HasFedStream before bytes given → mid.reader ≡ record { bytes = before.reader.bytes; ended = true } → mid.told ≡ before.told
    → ((notes : List Note) → mid.told ≡ list_any has_id (events_of notes) → HandsOnNotes notes mid after old new) → IsSpent after.reader.ended after.reader.bytes
    → AppendsEvents old new (λ more. HasEvents bytes (given ++ more) × (after.told ≡ list_any has_id (given ++ more)))
stream_end before mid after bytes old new given h held same takes spent =
    let t = takes h.notes (same ∙ h.told ∙ ap (list_any has_id) h.made) in
    let whole = whole_at_end bytes before.reader.bytes h.notes t.all mid.reader after.reader h.begins held t.given spent in
    gives_so (λ more. events_of t.all ≡ events_of h.notes ++ more) (λ more. HasEvents bytes (given ++ more) × (after.told ≡ list_any has_id (given ++ more))) old new t.put (λ more is.
    let made : given ++ more ≡ events_of t.all = ap (λ (l : List Event). l ++ more) h.made ∙ sym is in
    ((t.all, whole, made), t.told ∙ ap (list_any has_id) (sym made)))

-- ---- a piece, part by part

-- what stands in front of what is left of a piece was fed
abbrev pub IsFedTo : OldStream → OldStream → (piece left old new : List ℕ) → Type 0
IsFedTo before now piece left old new = (bytes : List ℕ) (given : List Event) → HasFedStream before bytes given → (done : List ℕ) × (piece ≡ done ++ left) × AppendsEvents old new (λ more. HasFedStream now (bytes ++ done) (given ++ more))

pub fed_to_none : (stream : OldStream) (piece old : List ℕ) → IsFedTo stream stream piece piece old old
fed_to_none stream piece old bytes given h = ([], refl, gives_none (λ events. HasFedStream stream (bytes ++ []) events) old given (subst (λ (l : List ℕ). HasFedStream stream l given) (sym (append-nil bytes)) h))

pub fed_to_more : (before now after : OldStream) (piece left part behind old mid new : List ℕ) → left ≡ part ++ behind
    → ((bytes : List ℕ) (given : List Event) → HasFedStream now bytes given → AppendsEvents mid new (λ more. HasFedStream after (bytes ++ part) (given ++ more)))
    → IsFedTo before now piece left old mid → IsFedTo before after piece behind old new
fed_to_more before now after piece left part behind old mid new parts step so_far bytes given h =
    let was = so_far bytes given h in (
      was.0 ++ part,
      was.1 ∙ ap (λ (l : List ℕ). was.0 ++ l) parts ∙ sym (append_assoc was.0 part behind),
      gives_then (λ events. HasFedStream now (bytes ++ was.0) events) (λ events. HasFedStream after (bytes ++ (was.0 ++ part)) events) old mid new given was.2
          (λ events fed. subst (λ (l : List ℕ). AppendsEvents mid new (λ more. HasFedStream after l (events ++ more))) (append_assoc bytes was.0 part) (step (bytes ++ was.0) events fed)),
    )

pub fed_to_end : (before now : OldStream) (piece left old new : List ℕ) → length left ≡ 0 → IsFedTo before now piece left old new → (bytes : List ℕ) (given : List Event) → HasFedStream before bytes given → AppendsEvents old new (λ more. HasFedStream now (bytes ++ piece) (given ++ more))
fed_to_end before now piece [] old new none so_far bytes given h =
    let was = so_far bytes given h in
    let all : piece ≡ was.0 = was.1 ∙ append-nil was.0 in
    subst (λ (l : List ℕ). AppendsEvents old new (λ more. HasFedStream now (bytes ++ l) (given ++ more))) (sym all) was.2
fed_to_end before now piece (byte ∷ left) old new none so_far bytes given h = absurd (omega (arith, none))

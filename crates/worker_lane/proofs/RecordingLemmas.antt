-- What a scribe gives, one call after another.
use Rattle.std.proofs.Common.{◌≡◌, ℕ, ◌<◌, Bool, true, false, List, [], ◌∷◌, ◌++◌, length, refl, inl, inr, sym, ap, ◌∙◌, append_assoc, arith}
use Rattle.std.specs.Prelude.{Result, Ok, Err, IfOk}
use Rattle.std.specs.List.{flat_map}
use Rattle.std.proofs.lemmas.List.{length-append, append-nil, flat_map_more}
use Rattle.std.proofs.lemmas.List.Concat.{flat_map-append}
use Rattle.std.proofs.lemmas.List.Elements.{All-nil}
use Rattle.packet_codec.specs.declared.event.Event.{Event}
use Rattle.packet_codec.specs.Canonical.{canonical}
use Rattle.packet_codec.specs.Grammar.{AreBytes}
use Rattle.stream_reader.specs.declared.note.Note.{Note}
use Rattle.stream_reader.specs.Notes.{HasDecided}
use Rattle.stream_reader.specs.First.{IsMadeBy}
use Rattle.stream_reader.specs.Stream.{Held, HasGiven, GivesNote}
use Rattle.stream_reader.specs.declared.first_note.First.{First}
use Rattle.stream_reader.proofs.FrontLemmas.{are_behind, are_both}
use Rattle.stream_reader.proofs.TurnLemmas.{begin_fed, begin_decided, begin_ended, end_whole, gives_none, gives_then}
use Rattle.stream_end.specs.Character.{missing_after_note}
use Rattle.worker_lane.specs.Inside.{ends_inside, ends_inside_behind, inside_under, inside_events}
use Rattle.worker_lane.specs.Recorded.{recorded_note, recorded_events, HasPacket, IsRecorded}
use Rattle.worker_lane.specs.Scribing.{Scribing, scribe_holding, finished, TakesNote, TakesInside, IsAsBefore, GivesEvent, GivesThis, GivesOne, GivesPacket, HasNoNote, HasNone, HasTold, most_left, Recording, GivesPackets, IsRecordedSoFar}
use Rattle.worker_lane.specs.Waiting.{PutsFirst, PutsOne, PutsNote}
use Rattle.stream_end.proofs.InsideLemmas.{given_alike}
use Rattle.worker_lane.proofs.NoteLemmas.{recorded_count}

-- ---- bytes fed, and the end

pub recording_start : (lane : ℕ) → lane < 64 → Recording [] (record { lane = lane; waiting = []; held = record { bytes = []; ended = false }; missing = 0; inside = false }) []
recording_start lane small = record {
  lane = small;
  are_bytes = All-nil (λ byte. byte < 256);
  are_held = All-nil (λ byte. byte < 256);
  notes = [];
  taken = gives_none false [];
  told = [];
  telling = (refl, λ more are. refl);
  events = [];
  parts = refl;
  packets = refl;
}

-- what is told, where no bytes behind the end are known
telling_fed : (ended : Bool) (lane : ℕ) (fed held piece : List ℕ) (missing : ℕ) (inside : Bool) (told : List Event) → ended ≡ false → AreBytes piece → HasTold ended lane fed held missing inside told → HasTold false lane (fed ++ piece) (held ++ piece) missing inside told
telling_fed true lane fed held piece missing inside told going_on are telling = absurd cc
telling_fed false lane fed held piece missing inside told going_on are telling = (
  telling.0,
  λ more are'.
      ap ends_inside (append_assoc fed piece more)
      ∙ telling.1 (piece ++ more) (are_both piece more are are')
      ∙ ap (ends_inside_behind missing) (sym (append_assoc held piece more)),
)

pub recording_fed : (fed piece written : List ℕ) (before after : Scribing) → AreBytes piece → before.held.ended ≡ false → after ≡ scribe_holding before (before.held.bytes ++ piece) → Recording fed before written → Recording (fed ++ piece) after written
recording_fed fed piece written before after are going_on after-is r =
    let taken : HasGiven false fed r.notes before.held.bytes = rw going_on at r.taken in
    rw after-is (record {
      lane = r.lane;
      are_bytes = are_both fed piece r.are_bytes are;
      are_held = are_both before.held.bytes piece r.are_held are;
      notes = r.notes;
      taken = begin_fed fed before.held.bytes piece r.notes are taken;
      told = r.told;
      telling = telling_fed before.held.ended before.lane fed before.held.bytes piece before.missing before.inside r.told going_on are r.telling;
      events = r.events;
      parts = r.parts;
      packets = r.packets;
    })

gives_ended : (ended : Bool) (bytes rest : List ℕ) (given : List Note) → HasGiven ended bytes given rest → HasGiven true bytes given rest
gives_ended false bytes rest given first = begin_ended bytes rest given first
gives_ended true bytes rest given first = first

telling_ended : (ended : Bool) (lane : ℕ) (fed held : List ℕ) (missing : ℕ) (inside : Bool) (told : List Event) → ended ≡ false → HasTold ended lane fed held missing inside told → HasTold true lane fed held missing (ends_inside_behind missing held) told
telling_ended true lane fed held missing inside told going_on telling = absurd cc
telling_ended false lane fed held missing inside told going_on telling =
    let same : ends_inside fed ≡ ends_inside_behind missing held = ap ends_inside (sym (append-nil fed)) ∙ telling.1 [] (All-nil (λ byte. byte < 256)) ∙ ap (ends_inside_behind missing) (append-nil held) in (
      ap (inside_events lane) same ∙ ap (λ (l : List Event). l ++ inside_events lane (ends_inside_behind missing held)) (sym telling.0),
      inl telling.0,
    )

pub recording_ended : (fed written : List ℕ) (before after : Scribing) → before.held.ended ≡ false → after ≡ finished before → Recording fed before written → Recording fed after written
recording_ended fed written before after going_on after-is r = rw after-is (record {
  lane = r.lane;
  are_bytes = r.are_bytes;
  are_held = r.are_held;
  notes = r.notes;
  taken = gives_ended before.held.ended fed before.held.bytes r.notes r.taken;
  told = r.told;
  telling = telling_ended before.held.ended before.lane fed before.held.bytes before.missing before.inside r.told going_on r.telling;
  events = r.events;
  parts = r.parts;
  packets = r.packets;
})

-- what is kept of a scribe whose stream has ended
pub finished_by : (before : Scribing) (held : Held) (inside : Bool) → held ≡ record { bytes = before.held.bytes; ended = true } → inside ≡ ends_inside_behind before.missing before.held.bytes → record { lane = before.lane; waiting = before.waiting; held = held; missing = before.missing; inside = inside } ≡ finished before
finished_by before held inside held-is inside-is =
    ap (λ (h : Held). record { lane = before.lane; waiting = before.waiting; held = h; missing = before.missing; inside = inside }) held-is
    ∙ ap (λ (b : Bool). record { lane = before.lane; waiting = before.waiting; held = record { bytes = before.held.bytes; ended = true }; missing = before.missing; inside = b }) inside-is

-- ---- one packet

-- nothing was told of the end while a note is left
none_told : (ended : Bool) (lane : ℕ) (fed held : List ℕ) (missing : ℕ) (inside : Bool) (told : List Event) → 0 < length held → HasTold ended lane fed held missing inside told → told ≡ []
none_told false lane fed held missing inside told some telling = telling.0
none_told true lane fed held missing inside told some (sum, inl none) = none
none_told true lane fed held missing inside told some (sum, inr empty) = absurd (omega (arith, some, ap length empty))

telling_taken : (ended : Bool) (fed : List ℕ) (before after : Scribing) (told : List Event) → (t : TakesNote before after) → before.held.ended ≡ ended → AreBytes before.held.bytes → told ≡ [] → HasTold ended before.lane fed before.held.bytes before.missing before.inside told → HasTold ended after.lane fed after.held.bytes after.missing after.inside told
telling_taken false fed before after told t ended are none telling = (
  none,
  λ more are_more.
      let first : HasGiven false before.held.bytes (t.note ∷ []) after.held.bytes = rw ended at t.given.first in
      telling.1 more are_more
      ∙ ap (λ (l : List ℕ). ends_inside_behind before.missing (l ++ more)) t.given.parts
      ∙ given_alike before.missing t.given.front after.held.bytes more t.note t.given.made (rw (t.given.parts) at first) (rw (t.given.parts) at are) are_more
      ∙ ap (λ (n : ℕ). ends_inside_behind n (after.held.bytes ++ more)) (sym t.missing),
)
telling_taken true fed before after told t ended are none telling = (
  ap (λ (lane : ℕ). inside_events lane (ends_inside fed)) t.lane ∙ telling.0
      ∙ ap (λ (lane : ℕ). told ++ inside_events lane before.inside) (sym t.lane)
      ∙ ap (λ (inside : Bool). told ++ inside_events after.lane inside) (sym t.inside),
  inl none,
)

recording_taken : (fed written : List ℕ) (before after : Scribing) → TakesNote before after → Recording fed before written → Recording fed after written
recording_taken fed written before after t r =
    let some : 0 < length before.held.bytes = omega (arith, t.given.some, ap length t.given.parts, length-append t.given.front after.held.bytes) in
    let none : r.told ≡ [] = none_told before.held.ended before.lane fed before.held.bytes before.missing before.inside r.told some r.telling in
    let before_all : recorded_events before.lane r.notes ≡ r.events ++ before.waiting = sym (append-nil (recorded_events before.lane r.notes)) ∙ ap (λ (l : List Event). recorded_events before.lane r.notes ++ l) (sym none) ∙ r.parts in
    let all : recorded_events before.lane r.notes ≡ r.events = before_all ∙ ap (λ (l : List Event). r.events ++ l) t.none ∙ append-nil r.events in
    let whole : AreBytes (t.given.front ++ after.held.bytes) = rw (t.given.parts) at r.are_held in
    record {
      lane = omega (arith, r.lane, t.lane);
      are_bytes = r.are_bytes;
      are_held = are_behind t.given.front after.held.bytes whole;
      notes = r.notes ++ t.note ∷ [];
      taken = rw (t.ended) (gives_then before.held.ended fed before.held.bytes after.held.bytes r.notes (t.note ∷ []) r.taken t.given.first);
      told = r.told;
      telling = rw (t.ended) (telling_taken before.held.ended fed before after r.told t refl r.are_held none r.telling);
      events = r.events;
      parts = ap (λ (l : List Event). recorded_events after.lane (r.notes ++ t.note ∷ []) ++ l) none
          ∙ append-nil (recorded_events after.lane (r.notes ++ t.note ∷ []))
          ∙ ap (λ (lane : ℕ). recorded_events lane (r.notes ++ t.note ∷ [])) t.lane
          ∙ flat_map-append (recorded_note before.lane) r.notes (t.note ∷ [])
          ∙ ap (λ (l : List Event). l ++ (recorded_note before.lane t.note ++ [])) all
          ∙ ap (λ (l : List Event). r.events ++ l) (append-nil (recorded_note before.lane t.note) ∙ sym t.waiting);
      packets = r.packets;
    }

-- the end inside a packet is told once
told_alone : (lane : ℕ) (inside : Bool) (told : List Event) → inside_events lane inside ≡ told ++ inside_under lane ∷ [] → told ≡ []
told_alone lane inside [] is = refl
told_alone lane true (e ∷ told) is = absurd (omega (arith, ap length is, length-append told (inside_under lane ∷ [])))
told_alone lane false (e ∷ told) is = absurd (omega (arith, ap length is))

telling_of_end : (ended : Bool) (lane : ℕ) (fed held : List ℕ) (missing : ℕ) (inside : Bool) (told : List Event) → ended ≡ true → HasTold ended lane fed held missing inside told → HasTold true lane fed held missing inside told
telling_of_end true lane fed held missing inside told is telling = telling
telling_of_end false lane fed held missing inside told is telling = absurd cc

recording_told : (fed written : List ℕ) (before after : Scribing) → TakesInside before after → Recording fed before written → Recording fed after written
recording_told fed written before after t r =
    let telling : HasTold true before.lane fed before.held.bytes before.missing before.inside r.told = telling_of_end before.held.ended before.lane fed before.held.bytes before.missing before.inside r.told t.ended r.telling in
    let sum : inside_events before.lane (ends_inside fed) ≡ r.told ++ inside_under before.lane ∷ [] = telling.0 ∙ ap (λ (inside : Bool). r.told ++ inside_events before.lane inside) t.inside in
    let none : r.told ≡ [] = told_alone before.lane (ends_inside fed) r.told sum in
    let now : inside_events before.lane (ends_inside fed) ≡ inside_under before.lane ∷ [] = sum ∙ ap (λ (l : List Event). l ++ inside_under before.lane ∷ []) none in
    let ended : HasTold true before.lane fed before.held.bytes before.missing false (inside_under before.lane ∷ []) = (now, inr t.no_bytes) in
    let all : recorded_events before.lane r.notes ≡ r.events =
    sym (append-nil (recorded_events before.lane r.notes)) ∙ ap (λ (l : List Event). recorded_events before.lane r.notes ++ l) (sym none) ∙ r.parts ∙ ap (λ (l : List Event). r.events ++ l) t.none ∙ append-nil r.events in
    rw (t.after_is) (record {
      lane = r.lane;
      are_bytes = r.are_bytes;
      are_held = r.are_held;
      notes = r.notes;
      taken = r.taken;
      told = inside_under before.lane ∷ [];
      telling = rw (t.ended) ended;
      events = r.events;
      parts = ap (λ (l : List Event). l ++ inside_under before.lane ∷ []) all;
      packets = r.packets;
    })

pub recording_as_before : (fed written : List ℕ) (before after : Scribing) → IsAsBefore before after → Recording fed before written → Recording fed after written
recording_as_before fed written before after (inl same) r = rw same r
recording_as_before fed written before after (inr (inl t)) r = recording_taken fed written before after t r
recording_as_before fed written before after (inr (inr t)) r = recording_told fed written before after t r

pub recording_given : (fed written : List ℕ) (before after : Scribing) (event : Event) → GivesEvent before event after → Recording fed before written → Recording fed after (written ++ canonical event)
recording_given fed written before after event g r =
    let ready : Recording fed g.waiting written = recording_as_before fed written before g.waiting g.ready r in
    let first : Recording fed (record { lane = after.lane; waiting = event ∷ after.waiting; held = after.held; missing = after.missing; inside = after.inside }) written = rw (g.first) at ready in
    record {
      lane = first.lane;
      are_bytes = first.are_bytes;
      are_held = first.are_held;
      notes = first.notes;
      taken = first.taken;
      told = first.told;
      telling = first.telling;
      events = first.events ++ event ∷ [];
      parts = first.parts ∙ sym (append_assoc first.events (event ∷ []) after.waiting);
      packets = ap (λ (l : List ℕ). l ++ canonical event) first.packets ∙ flat_map_more canonical [] first.events event;
    }

first_waiting : (before after : Scribing) (event : Event) → after.lane ≡ before.lane → after.held ≡ before.held → after.missing ≡ before.missing → after.inside ≡ before.inside → before.waiting ≡ event ∷ after.waiting → before ≡ record { lane = after.lane; waiting = event ∷ after.waiting; held = after.held; missing = after.missing; inside = after.inside }
first_waiting before after event lane held missing inside waiting =
    ap (λ (l : List Event). record { lane = before.lane; waiting = l; held = before.held; missing = before.missing; inside = before.inside }) waiting
    ∙ ap (λ (n : ℕ). record { lane = n; waiting = event ∷ after.waiting; held = before.held; missing = before.missing; inside = before.inside }) (sym lane)
    ∙ ap (λ (h : Held). record { lane = after.lane; waiting = event ∷ after.waiting; held = h; missing = before.missing; inside = before.inside }) (sym held)
    ∙ ap (λ (n : ℕ). record { lane = after.lane; waiting = event ∷ after.waiting; held = after.held; missing = n; inside = before.inside }) (sym missing)
    ∙ ap (λ (b : Bool). record { lane = after.lane; waiting = event ∷ after.waiting; held = after.held; missing = after.missing; inside = b }) (sym inside)

-- the first event waiting was given
pub first_given : (before after : Scribing) (old : List ℕ) (event : Event) (new : List ℕ) → after.lane ≡ before.lane → after.held ≡ before.held → after.missing ≡ before.missing → after.inside ≡ before.inside → PutsFirst event before.waiting old after.waiting new → GivesThis before old event after new
first_given before after old event new lane held missing inside first = record {
  given = record { waiting = before; ready = inl refl; first = first_waiting before after event lane held missing inside first.events_are };
  new_is = first.new_is;
  has_packet = first.has_packet;
}

pub first_if_given : {E : Type 0} (result : Result Bool E) (before after : Scribing) (old new : List ℕ) → after.lane ≡ before.lane → after.held ≡ before.held → after.missing ≡ before.missing → after.inside ≡ before.inside → IfOk result (λ given. given ≡ true → PutsOne before.waiting old after.waiting new) → IfOk result (λ given. given ≡ true → GivesOne before old after new)
first_if_given (Ok given) before after old new lane held missing inside puts = λ some.
    let first = puts some in
    (first.0, first_given before after old first.0 new lane held missing inside first.1)
first_if_given (Err fault) before after old new lane held missing inside puts = tt

-- the first event of the next note was given
note_given : (before after : Scribing) (given : Note) (event : Event) (left : List Event) (old new : List ℕ) → before.waiting ≡ [] → GivesNote before.held given after.held → after.held.ended ≡ before.held.ended → after.lane ≡ before.lane → after.missing ≡ missing_after_note before.missing given → after.inside ≡ before.inside → after.waiting ≡ left → PutsFirst event (recorded_note before.lane given) old left new → GivesThis before old event after new
note_given before after given event left old new none step ended lane missing inside left-is first =
    let taken : Scribing = record { lane = before.lane; waiting = recorded_note before.lane given; held = after.held; missing = missing_after_note before.missing given; inside = before.inside } in
    record {
      given = record {
        waiting = taken;
        ready = inr (inl (record { none = none; note = given; given = step; ended = ended; lane = refl; missing = refl; inside = refl; waiting = refl }));
        first = first_waiting taken after event lane refl missing inside (first.events_are ∙ ap (λ (l : List Event). event ∷ l) (sym left-is));
      };
      new_is = first.new_is;
      has_packet = first.has_packet;
    }

-- so it is of what is first, once it is passed
pub first_note_given : (before between after : Scribing) (first : First) (old new : List ℕ) → before.waiting ≡ [] → between.held ≡ before.held → between.lane ≡ before.lane → between.missing ≡ before.missing → between.inside ≡ before.inside → PutsNote before.lane before.held.bytes first old between.waiting new → ((given : Note) → IsMadeBy between.held.bytes first given → GivesNote between.held given after.held) → after.held.ended ≡ between.held.ended → ((given : Note) → IsMadeBy between.held.bytes first given → after.missing ≡ missing_after_note between.missing given) → after.lane ≡ between.lane → after.inside ≡ between.inside → after.waiting ≡ between.waiting → GivesOne before old after new
first_note_given before between after first old new none held lane missing inside puts passed ended heard same_lane same_inside left =
    let made : IsMadeBy between.held.bytes first puts.note = rw (ap (λ (h : Held). h.bytes) held) puts.made in
    let step : GivesNote before.held puts.note after.held = rw held at (passed puts.note made) in
    let now : after.missing ≡ missing_after_note before.missing puts.note = heard puts.note made ∙ ap (λ (n : ℕ). missing_after_note n puts.note) missing in (
      puts.puts.0,
      note_given before after puts.note puts.puts.0 between.waiting old new none step (ended ∙ ap (λ (h : Held). h.ended) held) (same_lane ∙ lane) now (same_inside ∙ inside) left puts.puts.1,
    )

-- the event was given that tells of an end inside a packet
pub told_given : (before after : Scribing) (old new : List ℕ) → HasNoNote before → before.held.ended ≡ true → before.inside ≡ true → HasPacket (inside_under before.lane) → after ≡ record { lane = before.lane; waiting = []; held = before.held; missing = before.missing; inside = false } → new ≡ old ++ canonical (inside_under before.lane) → GivesOne before old after new
told_given before after old new (none, spent) ended inside has after-is new-is =
    let no_bytes : before.held.bytes ≡ [] = rw ended at spent in
    rw after-is (
      inside_under before.lane,
      record {
        given = record {
          waiting = record { lane = before.lane; waiting = inside_under before.lane ∷ []; held = before.held; missing = before.missing; inside = false };
          ready = inr (inr (record { none = none; no_bytes = no_bytes; ended = ended; inside = inside; after_is = refl }));
          first = refl;
        };
        new_is = new-is;
        has_packet = has;
      },
    )

-- and it was given as its packet
pub as_packet : (before after : Scribing) (old : List ℕ) (event : Event) (new : List ℕ) → GivesThis before old event after new → GivesPacket before old after new
as_packet before after old event new g = record { event = event; given = g.given; new_is = g.new_is }

-- ---- what stays

pub as_before_lane : (before after : Scribing) → IsAsBefore before after → after.lane ≡ before.lane
as_before_lane before after (inl same) = ap (λ (s : Scribing). s.lane) same
as_before_lane before after (inr (inl t)) = t.lane
as_before_lane before after (inr (inr t)) = ap (λ (s : Scribing). s.lane) t.after_is

pub as_before_ended : (before after : Scribing) → IsAsBefore before after → after.held.ended ≡ before.held.ended
as_before_ended before after (inl same) = ap (λ (s : Scribing). s.held.ended) same
as_before_ended before after (inr (inl t)) = t.ended
as_before_ended before after (inr (inr t)) = ap (λ (s : Scribing). s.held.ended) t.after_is

pub given_lane : (before after : Scribing) (event : Event) → GivesEvent before event after → after.lane ≡ before.lane
given_lane before after event g = sym (ap (λ (s : Scribing). s.lane) g.first) ∙ as_before_lane before g.waiting g.ready

pub given_ended : (before after : Scribing) (event : Event) → GivesEvent before event after → after.held.ended ≡ before.held.ended
given_ended before after event g = sym (ap (λ (s : Scribing). s.held.ended) g.first) ∙ as_before_ended before g.waiting g.ready

-- ---- some packets

pub packets_none : (before : Scribing) (old : List ℕ) → GivesPackets before old before old
packets_none before old = record { lane = refl; ended = refl; packets = []; new_is = sym (append-nil old); recording = λ fed written r. rw (append-nil written) r }

pub packets_one : (before after : Scribing) (old new : List ℕ) → GivesPacket before old after new → GivesPackets before old after new
packets_one before after old new g = record {
  lane = given_lane before after g.event g.given;
  ended = given_ended before after g.event g.given;
  packets = canonical g.event;
  new_is = g.new_is;
  recording = λ fed written r. recording_given fed written before after g.event g.given r;
}

pub packets_then : (before between after : Scribing) (old middle new : List ℕ) → GivesPackets before old between middle → GivesPackets between middle after new → GivesPackets before old after new
packets_then before between after old middle new g h = record {
  lane = h.lane ∙ g.lane;
  ended = h.ended ∙ g.ended;
  packets = g.packets ++ h.packets;
  new_is = h.new_is ∙ ap (λ (l : List ℕ). l ++ h.packets) g.new_is ∙ append_assoc old g.packets h.packets;
  recording = λ fed written r. rw (← append_assoc written g.packets h.packets) (h.recording fed (written ++ g.packets) (g.recording fed written r));
}

-- ---- all of them

all_given : (fed written : List ℕ) (scribe : Scribing) → scribe.waiting ≡ [] → (r : Recording fed scribe written) → recorded_events scribe.lane r.notes ++ r.told ≡ r.events
all_given fed written scribe none r = r.parts ∙ ap (λ (l : List Event). r.events ++ l) none ∙ append-nil r.events

pub recording_decided : (fed written : List ℕ) (scribe : Scribing) → scribe.held.ended ≡ false → HasNone scribe → Recording fed scribe written → IsRecordedSoFar scribe.lane fed written
recording_decided fed written scribe going_on ((none, spent), inside) r =
    let taken : HasGiven false fed r.notes scribe.held.bytes = rw going_on at r.taken in
    let rest : HasDecided scribe.held.bytes [] = rw going_on at spent in
    let telling : HasTold false scribe.lane fed scribe.held.bytes scribe.missing scribe.inside r.told = rw going_on at r.telling in
    record {
      notes = r.notes;
      decided = begin_decided fed scribe.held.bytes r.notes taken rest;
      packets = r.packets ∙ ap (flat_map canonical) (sym (all_given fed written scribe none r) ∙ ap (λ (l : List Event). recorded_events scribe.lane r.notes ++ l) telling.0 ∙ append-nil (recorded_events scribe.lane r.notes));
    }

pub recording_whole : (fed written : List ℕ) (scribe : Scribing) → scribe.held.ended ≡ true → HasNone scribe → Recording fed scribe written → IsRecorded scribe.lane fed written
recording_whole fed written scribe ended ((none, spent), inside) r =
    let taken : HasGiven true fed r.notes scribe.held.bytes = rw ended at r.taken in
    let rest : scribe.held.bytes ≡ [] = rw ended at spent in
    let all : HasGiven true fed r.notes [] = rw rest at taken in
    let telling : HasTold true scribe.lane fed scribe.held.bytes scribe.missing scribe.inside r.told = rw ended at r.telling in
    let told : inside_events scribe.lane (ends_inside fed) ≡ r.told = telling.0 ∙ ap (λ (b : Bool). r.told ++ inside_events scribe.lane b) inside ∙ append-nil r.told in
    record {
      events = r.events;
      has = record { notes = r.notes; are_notes = end_whole fed r.notes all; made = sym (all_given fed written scribe none r) ∙ ap (λ (l : List Event). recorded_events scribe.lane r.notes ++ l) (sym told) };
      packets = r.packets;
    }

-- ---- less is left

pub given_shorter : (before after : Scribing) (event : Event) → GivesEvent before event after → most_left after < most_left before
given_shorter before after event g = shorter g.waiting g.ready g.first
  where
    shorter : (waiting : Scribing) → IsAsBefore before waiting → waiting ≡ record { lane = after.lane; waiting = event ∷ after.waiting; held = after.held; missing = after.missing; inside = after.inside } → most_left after < most_left before
    shorter waiting (inl same) first =
        let e = sym same ∙ first in
        omega (arith, ap (λ (s : Scribing). length s.waiting) e, ap (λ (s : Scribing). length s.held.bytes) e, ap (λ (s : Scribing). length (inside_events s.lane s.inside)) e)
    shorter waiting (inr (inl t)) first = omega (
      arith,
      ap (λ (s : Scribing). length s.waiting) first,
      ap (λ (s : Scribing). length s.held.bytes) first,
      ap (λ (s : Scribing). length (inside_events s.lane s.inside)) first,
      ap length t.waiting,
      ap length t.none,
      recorded_count before.lane t.note t.given.front t.given.made t.given.some,
      ap length t.given.parts,
      length-append t.given.front waiting.held.bytes,
      ap (λ (lane : ℕ). length (inside_events lane waiting.inside)) t.lane,
      ap (λ (b : Bool). length (inside_events before.lane b)) t.inside,
    )
    shorter waiting (inr (inr t)) first =
        let e = sym t.after_is ∙ first in
        omega (
          arith,
          ap length t.none,
          ap length t.no_bytes,
          ap (λ (b : Bool). length (inside_events before.lane b)) t.inside,
          ap (λ (s : Scribing). length s.waiting) e,
          ap (λ (s : Scribing). length s.held.bytes) e,
          ap (λ (s : Scribing). length (inside_events s.lane s.inside)) e,
        )

pub shorter_if_given : {E : Type 0} (result : Result Bool E) (before after : Scribing) (old new : List ℕ) → IfOk result (λ given. given ≡ true → GivesOne before old after new) → IfOk result (λ given. given ≡ true → most_left after < most_left before)
shorter_if_given (Ok given) before after old new gives = λ some.
    let one = gives some in
    given_shorter before after one.0 one.1.given
shorter_if_given (Err refused) before after old new gives = tt

pub packet_if_given : {E : Type 0} (result : Result Bool E) (before after : Scribing) (old new : List ℕ) → IfOk result (λ given. given ≡ true → GivesOne before old after new) → IfOk result (λ given. given ≡ true → GivesPacket before old after new)
packet_if_given (Ok given) before after old new gives = λ some.
    let one = gives some in
    as_packet before after old one.0 new one.1
packet_if_given (Err refused) before after old new gives = tt

-- ---- a piece of a stream

-- what was given of a scribe is behind what was written before
pub recording_packets : (fed old new : List ℕ) (before after : Scribing) → GivesPackets before old after new → Recording fed before old → Recording fed after new
recording_packets fed old new before after g r = rw (g.new_is) (g.recording fed old r)

-- what is left of a piece is still to be recorded
abbrev pub IsRecordedTo : (old : Scribing) → (before : List ℕ) → (now : Scribing) → (written : List ℕ) → (piece left : List ℕ) → Type 0
IsRecordedTo old before now written piece left = (fed : List ℕ) → Recording fed old before → (done : List ℕ) × (piece ≡ done ++ left) × Recording (fed ++ done) now written

pub recorded_none : (old : Scribing) (before piece : List ℕ) → IsRecordedTo old before old before piece piece
recorded_none old before piece fed r = ([], refl, rw (append-nil fed) r)

pub recorded_more : (old now held after : Scribing) (before written new piece left part behind : List ℕ) → left ≡ part ++ behind → ((fed written : List ℕ) → Recording fed now written → Recording (fed ++ part) held written) → GivesPackets held written after new → IsRecordedTo old before now written piece left → IsRecordedTo old before after new piece behind
recorded_more old now held after before written new piece left part behind parts step g so_far fed r =
    let was = so_far fed r in (
      was.0 ++ part,
      was.1 ∙ ap (λ (l : List ℕ). was.0 ++ l) parts ∙ sym (append_assoc was.0 part behind),
      rw (← append_assoc fed was.0 part) (recording_packets ((fed ++ was.0) ++ part) written new held after g (step (fed ++ was.0) written was.2)),
    )

pub recorded_all : (old now : Scribing) (before written piece left : List ℕ) → length left ≡ 0 → IsRecordedTo old before now written piece left → (fed : List ℕ) → Recording fed old before → Recording (fed ++ piece) now written
recorded_all old now before written piece [] none so_far fed r =
    let was = so_far fed r in
    let all : piece ≡ was.0 = was.1 ∙ append-nil was.0 in
    rw all was.2
recorded_all old now before written piece (byte ∷ left) none so_far fed r = absurd (omega arith)

-- ---- a whole stream

pub all_recorded : (fed old new : List ℕ) (lane : ℕ) (before ended after : Scribing) → before.lane ≡ lane → before.held.ended ≡ false → Recording fed before old → ended ≡ finished before → GivesPackets ended old after new → HasNone after → IsRecorded lane fed new
all_recorded fed old new lane before ended after lane-is going_on r ended-is g none =
    let last : Recording fed after new = recording_packets fed old new ended after g (recording_ended fed old before ended going_on ended-is r) in
    let same : after.lane ≡ lane = g.lane ∙ ap (λ (s : Scribing). s.lane) ended-is ∙ lane-is in
    let end : after.held.ended ≡ true = g.ended ∙ ap (λ (s : Scribing). s.held.ended) ended-is in
    rw same at (recording_whole fed new after end none last)

-- The course of a lane, step by step.
use Rattle.std.proofs.Common.{◌≡◌, ℕ, ◌<◌, ◌≤◌, Bool, true, false, List, [], ◌∷◌, ◌++◌, length, map, drop, refl, inl, inr, sym, subst, ap, ◌∙◌, arith}
use Rattle.std.specs.Prelude.{Option, Some, None, IfSome, IfNone, Result, Ok, Err, IfOk, OnErr, All}
use Rattle.std.specs.Option.{option_to_list}
use Rattle.std.proofs.lemmas.List.{length-append}
use Rattle.std.proofs.Math.Seq.{drop-append_seam}
use Rattle.std.proofs.lemmas.List.Elements.{All-nil, All-cons, All-head, All-tail}
use Rattle.packet_codec.specs.declared.event.Event.{Event}
use Rattle.packet_codec.specs.Grammar.{AreBytes}
use Rattle.packet_codec.specs.Canonical.{canonical, IsEvent, Fits}
use Rattle.packet_codec.specs.Halves.{first_half, second_half}
use Rattle.packet_codec.specs.Packet.{SpellsEvent}
use Rattle.packet_codec.specs.Routing.{under}
use Rattle.packet_codec.proofs.SpellingLemmas.{canonical_spells}
use Rattle.edge_io.specs.declared.child.Finish.{Finish}
use Rattle.stream_reader.specs.declared.note.Note.{Note}
use Rattle.stream_reader.specs.declared.note.Note.TheVariants as note
use Rattle.stream_reader.specs.Notes.{stdout_event}
use Rattle.stream_reader.specs.Room.{most_held}
use Rattle.stream_reader.specs.Stream.{IsMadeOf}
use Rattle.stream_reader.proofs.FrontLemmas.{are_before, are_behind, are_both}
use Rattle.worker_lane.specs.Inside.{inside_event, inside_under}
use Rattle.worker_lane.specs.Recorded.{pieces_of, stdout_under, recorded_event, recorded_note}
use Rattle.worker_lane.specs.Waiting.{IsShortNote}
use Rattle.worker_lane.specs.Scribing.{Scribing, scribe_holding, finished, TakesNote, TakesInside, IsAsBefore, GivesEvent, GivesPacket, HasNone}
use Rattle.worker_lane.specs.Endings.{ending_of, ending_events, IsPacketOf}
use Rattle.edge_io.specs.Children.{Output}
use Rattle.worker_lane.specs.Courses.{GivesHeard, HasNoneHeard, GivesLost, HasNoneLost}
use Rattle.worker_lane.specs.Lost.{lost_ids, lost_under, lost_events, IsLostPacket}
use Rattle.worker_lane.specs.Rest.{AppendsNext, Coursing, lots_to_give, lots_left, events_left, lots, IsEventOf, IsSoundScribe, IsAtStage, IsMarked}
use Rattle.worker_lane.specs.declared.lot.Ending.{Ending}
use Rattle.worker_lane.specs.declared.lot.Lot.TheVariants.{Packet, End}
use Rattle.worker_lane.specs.declared.lane_stage.Stage.{Stage}
use Rattle.worker_lane.specs.declared.lane_stage.Stage.TheVariants.{Reading, Closing}
use Rattle.worker_lane.proofs.NoteLemmas.{AreWritable, note_is_short, each_way, event_has_packets, foreign_has_packet}
use Rattle.worker_lane.proofs.RecordingLemmas.{as_before_lane, as_before_ended, given_lane, given_ended}
use Rattle.worker_lane.proofs.LostLemmas.{in_turn, none_recorded, RecordsEach}
use Rattle.worker_lane.proofs.InsideEventLemmas.{inside_fits, inside_is_event}
use Rattle.worker_lane.proofs.RestLemmas.{given_left, fed_left, ended_left, none_left, few_held}

-- ---- what is recorded of a note is under the lane

abbrev IsUnder : ℕ → Event → Type 0
IsUnder lane event = (inner : Event) × (event ≡ under lane inner)

are_events_of : (lane : ℕ) (events : List Event) → AreWritable events → All (IsUnder lane) events → All (IsEventOf lane) events
are_events_of lane [] h u = All-nil (IsEventOf lane)
are_events_of lane (event ∷ events) h u =
    let first = All-head (IsUnder lane) event events u in
    All-cons (IsEventOf lane) event events
    (record { inner = first.0; event_is = first.1; is_event = All-head IsEvent event events h.are_events; fits = All-head Fits event events h.fit })
    (are_events_of lane events (record { are_events = All-tail IsEvent event events h.are_events; fit = All-tail Fits event events h.fit }) (All-tail (IsUnder lane) event events u))

one_under : (lane : ℕ) (event : Event) (events : List Event) → All (IsUnder lane) events → All (IsUnder lane) (under lane event ∷ events)
one_under lane event events are = All-cons (IsUnder lane) (under lane event) events (event, refl) are

pieces_under : (lane : ℕ) (pieces : List (List ℕ)) → All (IsUnder lane) (map (stdout_under lane) pieces)
pieces_under lane [] = All-nil (IsUnder lane)
pieces_under lane (piece ∷ pieces) = All-cons (IsUnder lane) (stdout_under lane piece) (map (stdout_under lane) pieces) (stdout_event piece, refl) (pieces_under lane pieces)

event_under : (lane : ℕ) (event : Event) → All (IsUnder lane) (recorded_event lane event)
event_under lane event = each_way (All (IsUnder lane)) lane event
    (λ fits. one_under lane event [] (All-nil (IsUnder lane)))
    (λ long. one_under lane (first_half event) (under lane (second_half event) ∷ []) (one_under lane (second_half event) [] (All-nil (IsUnder lane))))
    (λ long short. pieces_under lane (pieces_of (canonical event)))

note_events : (lane : ℕ) (given : Note) (front : List ℕ) → lane < 64 → AreBytes front → IsMadeOf given front → IsShortNote given → All (IsEventOf lane) (recorded_note lane given)
note_events lane (note.Event event) front small are made short = are_events_of lane (recorded_event lane event) (event_has_packets lane event front small are made) (event_under lane event)
note_events lane (note.Foreign run) front small are made short = are_events_of lane (stdout_under lane run ∷ []) (foreign_has_packet lane run front small are made short) (All-cons (IsUnder lane) (stdout_under lane run) [] (stdout_event run, refl) (All-nil (IsUnder lane)))

-- ---- a scribe stays sound

pub sound_start : (lane : ℕ) → lane < 64 → IsSoundScribe (record { lane = lane; waiting = []; held = record { bytes = []; ended = false }; missing = 0; inside = false })
sound_start lane small = record { lane = small; are_bytes = All-nil (λ byte. byte < 256); short = omega arith; waiting = All-nil (IsEventOf lane) }

sound_taken : (before after : Scribing) → TakesNote before after → IsSoundScribe before → IsSoundScribe after
sound_taken before after t s =
    let whole : AreBytes (t.given.front ++ after.held.bytes) = rw (t.given.parts) at s.are_bytes in
    let front : AreBytes t.given.front = are_before t.given.front after.held.bytes whole in
    let short : IsShortNote t.note = note_is_short before.held.ended before.held.bytes t.given.front after.held.bytes t.note t.given.made t.given.first in
    record {
      lane = omega (arith, s.lane, t.lane);
      are_bytes = are_behind t.given.front after.held.bytes whole;
      short = omega (arith, s.short, ap length t.given.parts, length-append t.given.front after.held.bytes);
      waiting = rw (t.lane, t.waiting) (note_events before.lane t.note t.given.front s.lane front t.given.made short);
    }

sound_told : (before after : Scribing) → TakesInside before after → IsSoundScribe before → IsSoundScribe after
sound_told before after t s = rw (t.after_is) (record {
  lane = s.lane;
  are_bytes = s.are_bytes;
  short = s.short;
  waiting = All-cons (IsEventOf before.lane) (inside_under before.lane) [] (record { inner = inside_event; event_is = refl; is_event = inside_is_event before.lane s.lane; fits = inside_fits before.lane s.lane }) (All-nil (IsEventOf before.lane));
})

pub sound_as_before : (before after : Scribing) → IsAsBefore before after → IsSoundScribe before → IsSoundScribe after
sound_as_before before after (inl same) s = rw same s
sound_as_before before after (inr (inl t)) s = sound_taken before after t s
sound_as_before before after (inr (inr t)) s = sound_told before after t s

record IsSoundFirst (event : Event) (after : Scribing) : Type 0 where
  after_sound : IsSoundScribe after
  first : IsEventOf after.lane event

sound_given : (before after : Scribing) (event : Event) → GivesEvent before event after → IsSoundScribe before → IsSoundFirst event after
sound_given before after event g s =
    let ready : IsSoundScribe g.waiting = sound_as_before before g.waiting g.ready s in
    let first : IsSoundScribe (record { lane = after.lane; waiting = event ∷ after.waiting; held = after.held; missing = after.missing; inside = after.inside }) = rw (g.first) at ready in
    record {
      after_sound = record { lane = first.lane; are_bytes = first.are_bytes; short = first.short; waiting = All-tail (IsEventOf after.lane) event after.waiting first.waiting };
      first = All-head (IsEventOf after.lane) event after.waiting first.waiting;
    }

packet_of : (lane : ℕ) (event : Event) (packet : List ℕ) → IsEventOf lane event → packet ≡ canonical event → IsPacketOf lane packet
packet_of lane event packet e made = record { event = e.inner; packet_is = made ∙ ap canonical e.event_is; is_event = rw (e.event_is) at e.is_event; fits = rw (e.event_is) at e.fits }

pub sound_fed : (before after : Scribing) (piece : List ℕ) → AreBytes piece → length before.held.bytes ≤ most_held → length piece ≤ 65536 → after ≡ scribe_holding before (before.held.bytes ++ piece) → IsSoundScribe before → IsSoundScribe after
sound_fed before after piece are few short is s = rw is (record {
  lane = s.lane;
  are_bytes = are_both before.held.bytes piece s.are_bytes are;
  short = omega (arith, few, short, length-append before.held.bytes piece);
  waiting = s.waiting;
})

pub sound_ended : (before after : Scribing) → after ≡ finished before → IsSoundScribe before → IsSoundScribe after
sound_ended before after is s = rw is (record { lane = s.lane; are_bytes = s.are_bytes; short = s.short; waiting = s.waiting })

-- ---- one call of the scribe for a packet

-- what such a call keeps, whatever it answers
pub record StaysSound (before after : Scribing) : Type 0 where
  pub lane : after.lane ≡ before.lane
  pub ended : after.held.ended ≡ before.held.ended
  pub sound : IsSoundScribe before → IsSoundScribe after

stays_given : (before after : Scribing) (event : Event) → GivesEvent before event after → StaysSound before after
stays_given before after event g = record { lane = given_lane before after event g; ended = given_ended before after event g; sound = λ s. (sound_given before after event g s).after_sound }

stays_as_before : (before after : Scribing) → IsAsBefore before after → StaysSound before after
stays_as_before before after same = record { lane = as_before_lane before after same; ended = as_before_ended before after same; sound = sound_as_before before after same }

module _ {E : Type 0} where
  pub next_stays : (result : Result (Option (List ℕ)) E) (before after : Scribing) → IfOk result (λ answer. IfSome answer (λ packet. GivesPacket before [] after packet)) → IfOk result (λ answer. IfNone answer (HasNone before × (after ≡ before))) → OnErr result (after ≡ before) → StaysSound before after
  next_stays (Ok (Some packet)) before after gives without as_before = stays_given before after gives.event gives.given
  next_stays (Ok None) before after gives without as_before = stays_as_before before after (inl without.1)
  next_stays (Err refused) before after gives without same = stays_as_before before after (inl same)

  pub next_under : (result : Result (Option (List ℕ)) E) (before after : Scribing) → IsSoundScribe before → IfOk result (λ answer. IfSome answer (λ packet. GivesPacket before [] after packet)) → IfOk result (λ answer. IfSome answer (IsPacketOf before.lane))
  next_under (Ok (Some packet)) before after s gives = rw (given_lane before after gives.event gives.given) at (packet_of after.lane gives.event packet (sound_given before after gives.event gives.given s).first gives.new_is)
  next_under (Ok None) before after s gives = tt
  next_under (Err refused) before after s gives = tt

-- a packet was appended, or not
pub into_stays : {E : Type 0} (result : Result Bool E) (before after : Scribing) (old new : List ℕ) → IfOk result (λ given. given ≡ true → GivesPacket before old after new) → IfOk result (λ given. given ≡ false → HasNone before × (after ≡ before) × (new ≡ old)) → OnErr result ((after ≡ before) × (new ≡ old)) → StaysSound before after
into_stays (Ok true) before after old new gives without refused = let g = gives refl in stays_given before after g.event g.given
into_stays (Ok false) before after old new gives without refused = stays_as_before before after (inl (without refl).1)
into_stays (Err e) before after old new gives without refused = stays_as_before before after (inl refused.0)

-- ---- the lots

packet_first : (lane other : ℕ) (ids : List (List ℕ)) (event : Event) (events : List Event) (packet : List ℕ) (how : Ending) → other ≡ lane → packet ≡ canonical event → lots_to_give lane ids (event ∷ events) how ≡ Packet packet ∷ lots_to_give other (lost_ids ids (event ∷ [])) events how
packet_first lane other ids event events packet how same made =
    ap (λ (l : List (List ℕ)). Packet (canonical event) ∷ (map Packet (map canonical (events ++ (lost_events lane how l ++ ending_events lane how))) ++ End how ∷ [])) (in_turn ids (event ∷ []) events)
    ∙ ap (λ (p : List ℕ). Packet p ∷ lots_to_give lane (lost_ids ids (event ∷ [])) events how) (sym made)
    ∙ ap (λ (n : ℕ). Packet packet ∷ lots_to_give n (lost_ids ids (event ∷ [])) events how) (sym same)

given_lots : (before after : Scribing) (ids : List (List ℕ)) (packet more : List ℕ) (how : Ending) → (g : GivesPacket before [] after packet) → IsSoundScribe before → AreBytes more → (before.held.ended ≡ true → more ≡ []) → lots_to_give before.lane ids (events_left before more) how ≡ Packet packet ∷ lots_to_give after.lane (lost_ids ids (g.event ∷ [])) (events_left after more) how
given_lots before after ids packet more how g s are none =
    ap (λ (events : List Event). lots_to_give before.lane ids events how) (given_left before after g.event more g.given s.are_bytes are none)
    ∙ packet_first before.lane after.lane ids g.event (events_left after more) packet how (given_lane before after g.event g.given) g.new_is

not_ended : (ended : Bool) (more : List ℕ) → ended ≡ false → ended ≡ true → more ≡ []
not_ended ended more going_on is = absurd (let clash : false ≡ true = sym going_on ∙ is in grind (arith, clash))

-- while the child is read
pub at_reading : (stage : Stage) (ended failed : Bool) → stage ≡ Reading → IsAtStage stage ended failed → ended ≡ false
at_reading stage ended failed is stands = rw is at stands

pub at_closing : (stage : Stage) (how : Ending) (ended failed : Bool) → stage ≡ Closing how → IsAtStage stage ended failed → (ended ≡ true) × IsMarked how failed
at_closing stage how ended failed is stands = rw is at stands

-- the packet of an event that was given spells it
pub given_spelled : (before after : Scribing) (packet : List ℕ) → IsSoundScribe before → (g : GivesPacket before [] after packet) → SpellsEvent packet g.event
given_spelled before after packet s g =
    let first : IsEventOf after.lane g.event = (sound_given before after g.event g.given s).first in
    subst (λ (p : List ℕ). SpellsEvent p g.event) (sym g.new_is) (canonical_spells g.event first.is_event first.fits)

given_under : (before after : Scribing) (packet : List ℕ) → IsSoundScribe before → GivesPacket before [] after packet → IsPacketOf before.lane packet
given_under before after packet s g = rw (given_lane before after g.event g.given) at (packet_of after.lane g.event packet (sound_given before after g.event g.given s).first g.new_is)

-- what the ids are once the packet was heard
abbrev pub HearsPacket : (ids : List (List ℕ)) → (packet : List ℕ) → (now : List (List ℕ)) → Type 0
HearsPacket ids packet now = (e : Event) → SpellsEvent packet e → now ≡ lost_ids ids (e ∷ [])

pub gives_heard : (before after : Scribing) (ids now : List (List ℕ)) (stage : Stage) (failed : Bool) (packet : List ℕ) → GivesPacket before [] after packet → HearsPacket ids packet now → IsSoundScribe before → IsAtStage stage before.held.ended failed
    → GivesHeard (record { scribe = before; ids = ids; stage = stage; failed = failed }) packet (record { scribe = after; ids = now; stage = stage; failed = failed })
gives_heard before after ids now stage failed packet g hears s stands =
    let heard : now ≡ lost_ids ids (g.event ∷ []) = hears g.event (given_spelled before after packet s g) in
    record {
      under = given_under before after packet s g;
      reading = λ reading output are.
          ap (λ (at : Stage). lots_left before ids at output) reading
          ∙ given_lots before after ids packet output.bytes (ending_of output.finish) g s are (not_ended before.held.ended output.bytes (at_reading stage before.held.ended failed reading stands))
          ∙ ap (λ (l : List (List ℕ)). Packet packet ∷ lots_to_give after.lane l (events_left after output.bytes) (ending_of output.finish)) (sym heard)
          ∙ ap (λ (at : Stage). Packet packet ∷ lots_left after now at output) (sym reading);
      closing = λ how closing output other.
          ap (λ (at : Stage). lots_left before ids at output) closing
          ∙ given_lots before after ids packet [] how g s (All-nil (λ byte. byte < 256)) (λ ended. refl)
          ∙ ap (λ (l : List (List ℕ)). Packet packet ∷ lots_to_give after.lane l (events_left after []) how) (sym heard)
          ∙ ap (λ (at : Stage). Packet packet ∷ lots_left after now at other) (sym closing);
    }

pub none_heard : (scribe : Scribing) (ids : List (List ℕ)) (stage : Stage) (failed : Bool) → HasNone scribe → IsAtStage stage scribe.held.ended failed → HasNoneHeard (record { scribe = scribe; ids = ids; stage = stage; failed = failed })
none_heard scribe ids stage failed none stands = record {
  reading = λ reading. few_held scribe (at_reading stage scribe.held.ended failed reading stands) none;
  closing = λ how closing. none_left scribe (at_closing stage how scribe.held.ended failed closing stands).0 none;
}

-- what was appended is the event's packet
pub appended_packet : (before after : Scribing) (old new packet : List ℕ) → (g : GivesPacket before old after new) → packet ≡ drop (length old) new → packet ≡ canonical g.event
appended_packet before after old new packet g is = is ∙ ap (drop (length old)) g.new_is ∙ drop-append_seam old (canonical g.event)

pub appended_spelled : (before after : Scribing) (old new packet : List ℕ) → IsSoundScribe before → (g : GivesPacket before old after new) → packet ≡ canonical g.event → SpellsEvent packet g.event
appended_spelled before after old new packet s g made = given_spelled before after packet s (record { event = g.event; given = g.given; new_is = made })

-- a packet was appended, while the child is read
pub into_appends : (before after : Scribing) (ids now : List (List ℕ)) (stage : Stage) (failed : Bool) (old new packet : List ℕ) → stage ≡ Reading → IsSoundScribe before → before.held.ended ≡ false → IsAtStage stage before.held.ended failed → (g : GivesPacket before old after new) → packet ≡ canonical g.event → HearsPacket ids packet now
    → AppendsNext (record { scribe = before; ids = ids; stage = stage; failed = failed }) old (record { scribe = after; ids = now; stage = stage; failed = failed }) new
into_appends before after ids now stage failed old new packet is s going_on stands g made hears =
    let alone : GivesPacket before [] after packet = record { event = g.event; given = g.given; new_is = made } in
    let heard = gives_heard before after ids now stage failed packet alone hears s stands in
    record {
      packet = packet;
      appended = g.new_is ∙ ap (λ (p : List ℕ). old ++ p) (sym made);
      under = heard.under;
      left = heard.reading is;
    }

pub feed_left : (before after : Scribing) (piece : List ℕ) (ids : List (List ℕ)) (stage : Stage) (failed : Bool) → stage ≡ Reading → before.held.ended ≡ false → after ≡ scribe_holding before (before.held.bytes ++ piece)
    → (more : List ℕ) (finish : Finish) → lots (record { scribe = before; ids = ids; stage = stage; failed = failed }) (record { bytes = piece ++ more; finish = finish }) ≡ lots (record { scribe = after; ids = ids; stage = stage; failed = failed }) (record { bytes = more; finish = finish })
feed_left before after piece ids stage failed reading going_on is = rw reading (λ more finish.
    ap (λ (events : List Event). lots_to_give before.lane ids events (ending_of finish)) (fed_left before piece more going_on) ∙ ap (λ (s : Scribing). lots_to_give s.lane ids (events_left s more) (ending_of finish)) (sym is))

-- ---- once the child is not read any more

-- its output has ended
pub close_left : (before after : Scribing) (ids : List (List ℕ)) (stage now : Stage) (failed marked : Bool) (how : Ending) → stage ≡ Reading → now ≡ Closing how → before.held.ended ≡ false → after ≡ finished before
    → (finish : Finish) (output : Output) → ending_of finish ≡ how → lots (record { scribe = before; ids = ids; stage = stage; failed = failed }) (record { bytes = []; finish = finish }) ≡ lots (record { scribe = after; ids = ids; stage = now; failed = marked }) output
close_left before after ids stage now failed marked how reading closing going_on is = rw (reading, closing) (λ finish output ends.
    ap (λ (events : List Event). lots_to_give before.lane ids events (ending_of finish)) (ended_left before going_on)
    ∙ ap (lots_to_give before.lane ids (events_left (finished before) [])) ends
    ∙ ap (λ (s : Scribing). lots_to_give s.lane ids (events_left s []) how) (sym is))

-- the first id that was lost is told of
pub gives_lost : (scribe : Scribing) (ids rest : List (List ℕ)) (stage : Stage) (failed : Bool) (how : Ending) (id packet : List ℕ) → stage ≡ Closing how → ids ≡ id ∷ rest → RecordsEach scribe.lane how → IsLostPacket scribe.lane id packet
    → GivesLost (record { scribe = scribe; ids = ids; stage = stage; failed = failed }) how packet (record { scribe = scribe; ids = rest; stage = stage; failed = failed })
gives_lost scribe ids rest stage failed how id packet closing taken each lost = record {
  under = lost.under;
  left = λ none output other.
      ap (λ (at : Stage). lots_left scribe ids at output) closing
      ∙ ap (λ (events : List Event). lots_to_give scribe.lane ids events how) none
      ∙ ap (λ (l : List (List ℕ)). lots_to_give scribe.lane l [] how) taken
      ∙ ap (λ (l : List Event). map Packet (map canonical ((l ++ lost_events scribe.lane how (lost_ids rest [])) ++ ending_events scribe.lane how)) ++ End how ∷ []) (each id)
      ∙ ap (λ (p : List ℕ). Packet p ∷ lots_to_give scribe.lane rest [] how) (sym lost.packet_is)
      ∙ ap (λ (events : List Event). Packet packet ∷ lots_to_give scribe.lane rest events how) (sym none)
      ∙ ap (λ (at : Stage). Packet packet ∷ lots_left scribe rest at other) (sym closing);
}

none_left_lost : (scribe : Scribing) (ids : List (List ℕ)) (stage : Stage) (failed : Bool) (how : Ending) → stage ≡ Closing how → lost_events scribe.lane how (lost_ids ids []) ≡ [] → HasNoneLost (record { scribe = scribe; ids = ids; stage = stage; failed = failed }) how
none_left_lost scribe ids stage failed how closing nothing none output =
    ap (λ (at : Stage). lots_left scribe ids at output) closing
    ∙ ap (λ (events : List Event). lots_to_give scribe.lane ids events how) none
    ∙ ap (λ (l : List Event). map Packet (map canonical (l ++ ending_events scribe.lane how)) ++ End how ∷ []) nothing

-- nothing is recorded of those of this ending
pub loses_none : (scribe : Scribing) (ids : List (List ℕ)) (stage : Stage) (failed : Bool) (how : Ending) → stage ≡ Closing how → ((lane : ℕ) (id : List ℕ) → lost_under lane how id ≡ []) → HasNoneLost (record { scribe = scribe; ids = ids; stage = stage; failed = failed }) how
loses_none scribe ids stage failed how closing each = none_left_lost scribe ids stage failed how closing (none_recorded scribe.lane how (lost_ids ids []) (each scribe.lane))

-- none is left
pub lost_all : (scribe : Scribing) (ids : List (List ℕ)) (stage : Stage) (failed : Bool) (how : Ending) → stage ≡ Closing how → ids ≡ [] → HasNoneLost (record { scribe = scribe; ids = ids; stage = stage; failed = failed }) how
lost_all scribe ids stage failed how closing empty = none_left_lost scribe ids stage failed how closing (ap (λ (l : List (List ℕ)). lost_events scribe.lane how (lost_ids l [])) empty)

-- only the end is left
pub closing_last : (before : Coursing) (lane : ℕ) (how : Ending) (answer : Option (List ℕ)) → before.stage ≡ Closing how → HasNoneHeard before → HasNoneLost before how → lane ≡ before.scribe.lane → option_to_list answer ≡ map canonical (ending_events lane how)
    → (output : Output) → lots before output ≡ map Packet (option_to_list answer) ++ End how ∷ []
closing_last before lane how answer closing heard lost same is output =
    lost (heard.closing how closing) output
    ∙ ap (λ (n : ℕ). map Packet (map canonical (ending_events n how)) ++ End how ∷ []) (sym same)
    ∙ ap (λ (packets : List (List ℕ)). map Packet packets ++ End how ∷ []) (sym is)

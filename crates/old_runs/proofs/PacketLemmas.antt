-- Packets that are handed on, some behind others.
use Rattle.std.proofs.Common.{◌≡◌, ℕ, ◌+◌, ◌<◌, List, [], ◌∷◌, ◌++◌, All, length, get_or, take, drop, refl, sym, ap, ◌∙◌, append_assoc, subst, arith}
use Rattle.std.specs.List.{flat_map}
use Rattle.std.proofs.lemmas.List.{length-append, append-nil, drop_at, take_more}
use Rattle.std.proofs.lemmas.List.Concat.{flat_map-append}
use Rattle.std.proofs.lemmas.List.Elements.{All-nil, All-cons, All-append, All-head, All-tail}
use Rattle.packet_codec.specs.declared.event.Event.{Event}
use Rattle.packet_codec.specs.Canonical.{IsEvent, Fits, canonical}
use Rattle.packet_codec.specs.Grammar.{SpellsFront}
use Rattle.packet_codec.specs.Packet.{SpellsEvent}
use Rattle.packet_codec.specs.Packets.{ArePackets, ArePacketsOf}
use Rattle.packet_codec.proofs.SpellingLemmas.{canonical_spells}
use Rattle.stream_reader.proofs.FrontLemmas.{packet_some}
use Rattle.outcome_fold.specs.declared.fold.Outcomes.{Outcomes}
use Rattle.outcome_fold.specs.Outcome.{HasFolded}
use Rattle.old_runs.specs.Giving.{AppendsEvents}

-- ---- events that are handed on

packets_both : (events more : List Event) (bytes others : List ℕ) → ArePacketsOf events bytes → ArePacketsOf more others → ArePacketsOf (events ++ more) (bytes ++ others)
packets_both events more bytes others are also = record {
  are_events = All-append IsEvent events more are.are_events also.are_events;
  fit = All-append Fits events more are.fit also.fit;
  packets = (λ i. are.packets i ++ also.packets i) ∙ sym (flat_map-append canonical events more);
}

no_packets : ArePacketsOf [] []
no_packets = record { are_events = All-nil IsEvent; fit = All-nil Fits; packets = refl }

-- none
pub gives_none : (P : List Event → Type 0) (old : List ℕ) (given : List Event) → P given → AppendsEvents old old (λ more. P (given ++ more))
gives_none P old given holds = record { more = []; packets = []; are = no_packets; grown = sym (append-nil old); holds = subst P (sym (append-nil given)) holds }

-- these
pub gives_these : (P : List Event → Type 0) (old new : List ℕ) (events : List Event) → All IsEvent events → All Fits events → new ≡ old ++ flat_map canonical events → P events → AppendsEvents old new P
gives_these P old new events are fit grown holds = record { more = events; packets = flat_map canonical events; are = record { are_events = are; fit = fit; packets = refl }; grown = grown; holds = holds }

-- one
pub gives_this : (P : List Event → Type 0) (old new : List ℕ) (event : Event) → IsEvent event → Fits event → new ≡ old ++ canonical event → P (event ∷ []) → AppendsEvents old new P
gives_this P old new event is fits grown holds =
    gives_these P old new (event ∷ []) (All-cons IsEvent event [] is (All-nil IsEvent)) (All-cons Fits event [] fits (All-nil Fits)) (grown ∙ ap (λ (l : List ℕ). old ++ l) (sym (append-nil (canonical event)))) holds

-- some, and then others
pub gives_then : (P Q : List Event → Type 0) (old mid new : List ℕ) (given : List Event) → AppendsEvents old mid (λ more. P (given ++ more)) → ((so_far : List Event) → P so_far → AppendsEvents mid new (λ more. Q (so_far ++ more))) → AppendsEvents old new (λ more. Q (given ++ more))
gives_then P Q old mid new given first later =
    let next = later (given ++ first.more) first.holds in
    record {
      more = first.more ++ next.more;
      packets = first.packets ++ next.packets;
      are = packets_both first.more next.more first.packets next.packets first.are next.are;
      grown = next.grown ∙ ap (λ (l : List ℕ). l ++ next.packets) first.grown ∙ append_assoc old first.packets next.packets;
      holds = subst Q (append_assoc given first.more next.more) next.holds;
    }

-- the same of what they say
pub gives_so : (P Q : List Event → Type 0) (old new : List ℕ) → AppendsEvents old new P → ((more : List Event) → P more → Q more) → AppendsEvents old new Q
gives_so P Q old new first says = record { more = first.more; packets = first.packets; are = first.are; grown = first.grown; holds = says first.more first.holds }

-- ---- events, one after another

pub put_more : (events : List Event) (i : ℕ) (event : Event) (front mid new : List ℕ) → i < length events → event ≡ get_or events i event → mid ≡ front ++ flat_map canonical (take i events) → new ≡ mid ++ canonical event → new ≡ front ++ flat_map canonical (take (i + 1) events)
put_more events i event front mid new below is so_far grown =
    let next : take (i + 1) events ≡ take i events ++ event ∷ [] = take_more events i event below ∙ ap (λ (e : Event). take i events ++ e ∷ []) (sym is) in
    let all : flat_map canonical (take (i + 1) events) ≡ flat_map canonical (take i events) ++ canonical event =
    ap (flat_map canonical) next ∙ flat_map-append canonical (take i events) (event ∷ []) ∙ ap (λ (l : List ℕ). flat_map canonical (take i events) ++ l) (append-nil (canonical event)) in
    grown ∙ ap (λ (l : List ℕ). l ++ canonical event) so_far ∙ append_assoc front (flat_map canonical (take i events)) (canonical event) ∙ ap (λ (l : List ℕ). front ++ l) (sym all)

pub are_more : (events : List Event) (i : ℕ) (event : Event) → i < length events → event ≡ get_or events i event → All IsEvent (take i events) → IsEvent event → All IsEvent (take (i + 1) events)
are_more events i event below is so_far one =
    let next : take (i + 1) events ≡ take i events ++ event ∷ [] = take_more events i event below ∙ ap (λ (e : Event). take i events ++ e ∷ []) (sym is) in
    subst (All IsEvent) (sym next) (All-append IsEvent (take i events) (event ∷ []) so_far (All-cons IsEvent event [] one (All-nil IsEvent)))

-- ---- packets, one after another

-- the packet of the first one stands at the front
abbrev first_found : (event : Event) (events : List Event) (bytes : List ℕ) → ArePacketsOf (event ∷ events) bytes → SpellsFront SpellsEvent bytes event (flat_map canonical events)
first_found event events bytes are = record { front = canonical event; parts = are.packets; spelled = canonical_spells event (All-head IsEvent event events are.are_events) (All-head Fits event events are.fit) }

-- behind it stand those of the others
others_are : (event : Event) (events : List Event) (bytes : List ℕ) (size : ℕ) → ArePacketsOf (event ∷ events) bytes → size ≡ length (canonical event) → ArePacketsOf events (drop size bytes)
others_are event events bytes size are is = record {
  are_events = All-tail IsEvent event events are.are_events;
  fit = All-tail Fits event events are.fit;
  packets = ap (drop size) are.packets ∙ drop_at (canonical event) (flat_map canonical events) size (sym is);
}

no_event : (bytes : List ℕ) → 0 < length bytes → ArePacketsOf [] bytes → ⊥
no_event bytes some are = omega (arith, some, ap length are.packets)

pub packet_stands : (bytes : List ℕ) → 0 < length bytes → ArePackets bytes → (event : Event) × (behind : List ℕ) × SpellsFront SpellsEvent bytes event behind
packet_stands bytes some ([], are) = absurd (no_event bytes some are)
packet_stands bytes some (event ∷ events, are) = (event, flat_map canonical events, first_found event events bytes are)

-- the size of the packet at the front
abbrev IsFrontSize : (bytes : List ℕ) (size : ℕ) → Type 0
IsFrontSize bytes size = (event : Event) (behind : List ℕ) → (found : SpellsFront SpellsEvent bytes event behind) → size ≡ length found.front

pub packets_left : (left : List ℕ) (size : ℕ) → 0 < length left → IsFrontSize left size → ArePackets left → ArePackets (drop size left)
packets_left left size some is ([], are) = absurd (no_event left some are)
packets_left left size some is (event ∷ events, are) = (events, others_are event events left size are (is event (flat_map canonical events) (first_found event events left are)))

-- some of the events were folded, and what is left is the packets of the others
abbrev pub IsFoldedTo : (bytes left : List ℕ) (old now : Outcomes) → Type 0
IsFoldedTo bytes left old now = (seen events : List Event) → ArePacketsOf events bytes → HasFolded old seen → (done : List Event) × (others : List Event) × (events ≡ done ++ others) × ArePacketsOf others left × HasFolded now (seen ++ done)

pub folded_none : (bytes : List ℕ) (old : Outcomes) → IsFoldedTo bytes bytes old old
folded_none bytes old seen events are folded = ([], events, refl, are, rw (append-nil seen) folded)

-- one packet more was folded
pub folded_more : (bytes left : List ℕ) (old now new : Outcomes) (size : ℕ) → 0 < length left → IsFrontSize left size
    → ((seen : List Event) (event : Event) (behind : List ℕ) → SpellsFront SpellsEvent left event behind → HasFolded now seen → HasFolded new (seen ++ event ∷ []))
    → IsFoldedTo bytes left old now → IsFoldedTo bytes (drop size left) old new
folded_more bytes left old now new size some is step so_far seen events are folded = more (so_far seen events are folded)
  where
    more : (done : List Event) × (others : List Event) × (events ≡ done ++ others) × ArePacketsOf others left × HasFolded now (seen ++ done)
        → (done : List Event) × (others : List Event) × (events ≡ done ++ others) × ArePacketsOf others (drop size left) × HasFolded new (seen ++ done)
    more (done, [], parts, rest, now_folded) = absurd (no_event left some rest)
    more (done, event ∷ others, parts, rest, now_folded) =
        let found = first_found event others left rest in (
          done ++ event ∷ [],
          others,
          parts ∙ sym (append_assoc done (event ∷ []) others),
          others_are event others left size rest (is event (flat_map canonical others) found),
          rw (← append_assoc seen done (event ∷ [])) (step (seen ++ done) event (flat_map canonical others) found now_folded),
        )

-- where none is left, all were folded
pub folded_all : (bytes left : List ℕ) (old now : Outcomes) → length left ≡ 0 → IsFoldedTo bytes left old now
    → (seen events : List Event) → ArePacketsOf events bytes → HasFolded old seen → HasFolded now (seen ++ events)
folded_all bytes left old now none so_far seen events are folded = all (so_far seen events are folded)
  where
    some_bytes : (event : Event) → IsEvent event → Fits event → 0 < length (canonical event)
    some_bytes event is fits = packet_some (canonical event) event (canonical_spells event is fits)

    all : (done : List Event) × (others : List Event) × (events ≡ done ++ others) × ArePacketsOf others left × HasFolded now (seen ++ done) → HasFolded now (seen ++ events)
    all (done, [], parts, rest, now_folded) = rw (parts ∙ append-nil done) now_folded
    all (done, event ∷ others, parts, rest, now_folded) = absurd (omega (arith, none, some_bytes event (All-head IsEvent event others rest.are_events) (All-head Fits event others rest.fit), ap length rest.packets, length-append (canonical event) (flat_map canonical others)))

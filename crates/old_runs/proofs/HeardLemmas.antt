-- Lines that are heard, one more at the end.
use Rattle.std.proofs.Common.{◌≡◌, ◌⊎◌, inl, inr, ⊎_elim, ◌&&◌, ◌||◌, Bool, true, List, [], ◌∷◌, ◌++◌, length, refl, sym, ap, subst, ◌∙◌, arith, append_assoc, length-append}
use Rattle.std.specs.Prelude.{◌↔◌}
use Rattle.std.specs.List.{list_any}
use Rattle.std.proofs.lemmas.Bool.{or_left, or_right, or_cases, and_parts}
use Rattle.std.proofs.lemmas.List.Folds.{list_any-append}
use Rattle.packet_codec.specs.declared.event.Event.{Event}
use Rattle.v1_bridge.specs.Reading.{Input, line, piece, start, step, state_behind, events_given_behind}
use Rattle.v1_bridge.specs.Kept.{HasRead}
use Rattle.v1_bridge.proofs.RunLemmas.{behind_push, from_push}
use Rattle.old_runs.specs.declared.line_place.Place.{Place}
use Rattle.old_runs.specs.declared.line_place.Place.TheVariants.{Outside, Lines, Parts}
use Rattle.old_runs.specs.declared.heard_lines.Heard.{Heard}
use Rattle.old_runs.specs.Places.{place_of, place_behind, IsAmongParts}
use Rattle.old_runs.specs.Files.{has_id, lacks_id, HasForeignPart, HasOpenParts}
use Rattle.old_runs.specs.Lines.{is_parts, HasHeardLines}
use Rattle.old_runs.proofs.PlaceLemmas.{StepLands, line_lands_at, piece_lands_at}

-- ---- something else than a part

pub parts_is : (place : Place) → is_parts place ≡ true → place ≡ Parts
parts_is Outside is = cc
parts_is Lines is = cc
parts_is Parts is = refl

pub is_parts_is : (place : Place) → place ≡ Parts → is_parts place ≡ true
is_parts_is place is = ap is_parts is

-- no line was heard
pub none_foreign : HasForeignPart [] → ⊥
none_foreign h = omega (arith, ap length h.is, length-append h.front (h.input ∷ h.rest))

-- where a list that has one more at its end is cut in two, the cut is there or in front of it
split_last : (inputs : List Input) (last : Input) (front : List Input) (input : Input) (rest : List Input) → inputs ++ last ∷ [] ≡ front ++ input ∷ rest
    → ((front ≡ inputs) × (input ≡ last)) ⊎ ((behind : List Input) × (inputs ≡ front ++ input ∷ behind))
split_last [] last [] input rest is = inl (refl, cc)
split_last [] last (first ∷ front) input rest is = absurd (omega (arith, ap length is, length-append front (input ∷ rest)))
split_last (first ∷ inputs) last [] input rest is =
    let same : first ≡ input = cc in
    inr (inputs, λ i. same i ∷ inputs)
split_last (first ∷ inputs) last (other ∷ front) input rest is =
    let same : first ≡ other = cc in
    let others : inputs ++ last ∷ [] ≡ front ++ input ∷ rest = cc in
    ⊎_elim
    (λ (here : (front ≡ inputs) × (input ≡ last)). inl ((λ i. sym same i ∷ here.0 i), here.1))
    (λ (before : (behind : List Input) × (inputs ≡ front ++ input ∷ behind)). inr (before.0, λ i. same i ∷ before.1 i))
    (split_last inputs last front input rest others)

foreign_before : (inputs : List Input) (input : Input) → HasForeignPart inputs → HasForeignPart (inputs ++ input ∷ [])
foreign_before inputs input h = record {
  front = h.front;
  input = h.input;
  rest = h.rest ++ input ∷ [];
  is = ap (λ (l : List Input). l ++ input ∷ []) h.is ∙ append_assoc h.front (h.input ∷ h.rest) (input ∷ []);
  among = h.among;
  foreign = h.foreign;
}

foreign_either : (inputs : List Input) (input : Input) → HasForeignPart (inputs ++ input ∷ [])
    → (IsAmongParts (state_behind start inputs) × (list_any lacks_id (events_given_behind inputs input) ≡ true)) ⊎ HasForeignPart inputs
foreign_either inputs input h =
    ⊎_elim
    (λ (here : (h.front ≡ inputs) × (h.input ≡ input)). inl (
      subst (λ (l : List Input). IsAmongParts (state_behind start l)) here.0 h.among,
      sym (λ i. list_any lacks_id (events_given_behind (here.0 i) (here.1 i))) ∙ h.foreign,
    ))
    (λ (before : (behind : List Input) × (inputs ≡ h.front ++ h.input ∷ behind)). inr (record {
      front = h.front;
      input = h.input;
      rest = before.0;
      is = before.1;
      among = h.among;
      foreign = h.foreign;
    }))
    (split_last inputs input h.front h.input h.rest h.is)

-- a line more, and whether it is one among parts that gives an event without id
broken_more : (inputs : List Input) (input : Input) (place : Place) (events : List Event) (before after : Bool)
    → ((before ≡ true) ↔ HasForeignPart inputs) → place ≡ place_of (state_behind start inputs).open_test → events ≡ events_given_behind inputs input
    → after ≡ (before || (is_parts place && list_any lacks_id events)) → (after ≡ true) ↔ HasForeignPart (inputs ++ input ∷ [])
broken_more inputs input place events before after so_far at given is = (
  λ broken.
      ⊎_elim
      (λ (was : before ≡ true). foreign_before inputs input (so_far.0 was))
      (λ (now : (is_parts place && list_any lacks_id events) ≡ true).
      let both = and_parts (is_parts place) (list_any lacks_id events) now in
      record {
        front = inputs;
        input = input;
        rest = [];
        is = refl;
        among = sym at ∙ parts_is place both.0;
        foreign = ap (list_any lacks_id) (sym given) ∙ both.1;
      })
      (or_cases before (is_parts place && list_any lacks_id events) (sym is ∙ broken)),
  λ h.
      is ∙ ⊎_elim
      (λ (here : IsAmongParts (state_behind start inputs) × (list_any lacks_id (events_given_behind inputs input) ≡ true)).
      or_right before (is_parts place && list_any lacks_id events) ((λ i. is_parts_is place (at ∙ here.0) i && (ap (list_any lacks_id) given ∙ here.1) i)))
      (λ (was : HasForeignPart inputs). or_left before (is_parts place && list_any lacks_id events) (so_far.1 was))
      (foreign_either inputs input h),
)

-- ---- one line or piece more

module _ (before after : Heard) (inputs : List Input) (input : Input) (given events : List Event) (h : HasHeardLines before inputs given) (gives : events ≡ events_given_behind inputs input)
    (told : after.told ≡ (before.told || list_any has_id events)) (broken : after.broken ≡ (before.broken || (is_parts before.place && list_any lacks_id events)))
    (read : HasRead after.reader (inputs ++ input ∷ [])) where
  heard_more : (place : Place) → after.place ≡ place → StepLands (step (state_behind start inputs) input) place → HasHeardLines after (inputs ++ input ∷ []) (given ++ events)
  heard_more place at lands = record {
    taken = read;
    made = (λ i. h.made i ++ gives i) ∙ sym (from_push start inputs input);
    place = at ∙ sym lands.is ∙ ap (λ s. place_of s.open_test) (sym (behind_push start inputs input));
    outcomes = rw (behind_push start inputs input) lands.outcomes;
    told = told ∙ ap (λ b. b || list_any has_id events) h.told ∙ sym (list_any-append has_id given events);
    broken = broken_more inputs input before.place events before.broken after.broken h.broken h.place gives broken;
  }

-- none were heard, so these are all that the line gave
alone : (inputs : List Input) (input : Input) (cleared events : List Event) → cleared ≡ [] → events ≡ cleared ++ events_given_behind inputs input → events ≡ events_given_behind inputs input
alone inputs input cleared events none is = is ∙ ap (λ (l : List Event). l ++ events_given_behind inputs input) none

pub heard_line : (before after : Heard) (inputs : List Input) (bytes : List _) (given cleared events : List Event) → HasHeardLines before inputs given → cleared ≡ [] → events ≡ cleared ++ events_given_behind inputs (line bytes)
    → after.told ≡ (before.told || list_any has_id events) → after.broken ≡ (before.broken || (is_parts before.place && list_any lacks_id events)) → HasRead after.reader (inputs ++ line bytes ∷ [])
    → after.place ≡ place_behind before.place bytes events → HasHeardLines after (inputs ++ line bytes ∷ []) (given ++ events)
heard_line before after inputs bytes given cleared events h none is told broken read place =
    let gives = alone inputs (line bytes) cleared events none is in
    let at : after.place ≡ place_behind (place_of (state_behind start inputs).open_test) bytes (events_given_behind inputs (line bytes)) = place ∙ (λ i. place_behind (h.place i) bytes (gives i)) in
    heard_more before after inputs (line bytes) given events h gives told broken read _ at (line_lands_at (state_behind start inputs) bytes h.outcomes)

pub heard_piece : (before after : Heard) (inputs : List Input) (bytes : List _) (last : Bool) (given cleared events : List Event) → HasHeardLines before inputs given → cleared ≡ [] → events ≡ cleared ++ events_given_behind inputs (piece bytes last)
    → after.told ≡ (before.told || list_any has_id events) → after.broken ≡ (before.broken || (is_parts before.place && list_any lacks_id events)) → HasRead after.reader (inputs ++ piece bytes last ∷ [])
    → after.place ≡ before.place → HasHeardLines after (inputs ++ piece bytes last ∷ []) (given ++ events)
heard_piece before after inputs bytes last given cleared events h none is told broken read place =
    heard_more before after inputs (piece bytes last) given events h (alone inputs (piece bytes last) cleared events none is) told broken read _ (place ∙ h.place) (piece_lands_at (state_behind start inputs) bytes last h.outcomes)

-- ---- the end

pub open_at_end : (heard : Heard) (inputs : List Input) (given : List Event) (unclosed : Bool) → HasHeardLines heard inputs given → unclosed ≡ (heard.broken || is_parts heard.place) → (unclosed ≡ true) ↔ HasOpenParts inputs
open_at_end heard inputs given unclosed h is = (
  λ yes.
      ⊎_elim
      (λ (was : heard.broken ≡ true). inl (h.broken.0 was))
      (λ (now : is_parts heard.place ≡ true). inr (sym h.place ∙ parts_is heard.place now))
      (or_cases heard.broken (is_parts heard.place) (sym is ∙ yes)),
  λ parts.
      is ∙ ⊎_elim
      (λ (foreign : HasForeignPart inputs). or_left heard.broken (is_parts heard.place) (h.broken.1 foreign))
      (λ (among : IsAmongParts (state_behind start inputs)). or_right heard.broken (is_parts heard.place) (is_parts_is heard.place (h.place ∙ among)))
      parts,
)

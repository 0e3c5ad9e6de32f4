-- Lines in turn, one more at the end.
use Rattle.std.proofs.Common.{◌≡◌, List, [], ◌∷◌, ◌++◌, refl, sym, ap, ◌∙◌, append_assoc}
use Rattle.std.proofs.lemmas.List.{append-nil}
use Rattle.packet_codec.specs.declared.event.Event.{Event}
use Rattle.v1_bridge.specs.Reading.{State, Input, start, step, state_behind, events_from, events_so_far, events_given_behind}

pub behind_push : (s : State) (inputs : List Input) (input : Input) → state_behind s (inputs ++ input ∷ []) ≡ (step (state_behind s inputs) input).state
behind_push s [] input = refl
behind_push s (first ∷ inputs) input = behind_push (step s first).state inputs input

pub from_push : (s : State) (inputs : List Input) (input : Input) → events_from s (inputs ++ input ∷ []) ≡ events_from s inputs ++ (step (state_behind s inputs) input).given
from_push s [] input = append-nil (step s input).given
from_push s (first ∷ inputs) input =
    ap (λ (l : List Event). (step s first).given ++ l) (from_push (step s first).state inputs input)
    ∙ sym (append_assoc (step s first).given (events_from (step s first).state inputs) (step (state_behind (step s first).state inputs) input).given)

-- what is given of one input more
pub given_is : (s : State) (inputs : List Input) (input : Input) (old new : List Event) → s ≡ state_behind start inputs → new ≡ old ++ (step s input).given → new ≡ old ++ events_given_behind inputs input
given_is s inputs input old new known is = is ∙ ap (λ (r : State). old ++ (step r input).given) known

pub so_far_push : (inputs : List Input) (input : Input) (none given : List Event) → none ≡ [] → given ≡ none ++ events_given_behind inputs input → events_so_far (inputs ++ input ∷ []) ≡ events_so_far inputs ++ given
so_far_push inputs input none given new is =
    from_push start inputs input ∙ ap (λ (l : List Event). events_from start inputs ++ l) (sym (is ∙ ap (λ (l : List Event). l ++ events_given_behind inputs input) new))

pub read_push : (s next : State) (inputs : List Input) (input : Input) → s ≡ state_behind start inputs → next ≡ (step s input).state → next ≡ state_behind start (inputs ++ input ∷ [])
read_push s next inputs input known is = is ∙ ap (λ (r : State). (step r input).state) known ∙ sym (behind_push start inputs input)

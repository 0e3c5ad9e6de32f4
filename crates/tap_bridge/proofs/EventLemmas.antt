-- Missing tests, one after another.
use Rattle.std.proofs.Common.{◌≡◌, ℕ, ◌+◌, ◌-◌, ◌≤◌, List, [], ◌∷◌, ◌++◌, map, sym, ◌∙◌, ap, append_assoc, arith}
use Rattle.std.proofs.lemmas.List.FromFn.{map-range_with_len_more}
use Rattle.std.specs.List.{range_with_len}
use Rattle.packet_codec.specs.declared.event.Event.{Event}
use Rattle.tap_bridge.specs.Events.{missing_event}

pub missing_push : (old given : List Event) (event : Event) (first number : ℕ) → first ≤ number → given ≡ old ++ map missing_event (range_with_len first (number - first)) → event ≡ missing_event number
    → given ++ event ∷ [] ≡ old ++ map missing_event (range_with_len first (number + 1 - first))
missing_push old given event first number low is this =
    let size : number - first + 1 ≡ number + 1 - first = omega arith in
    (λ i. is i ++ this i ∷ [])
    ∙ append_assoc old (map missing_event (range_with_len first (number - first))) (missing_event number ∷ [])
    ∙ ap (λ l. old ++ l) (sym (map-range_with_len_more missing_event first (number - first) number (omega arith)) ∙ ap (λ n. map missing_event (range_with_len first n)) size)

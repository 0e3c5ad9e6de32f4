use Rattle.std.proofs.Common.{◌≡◌, ℕ, ◌+◌, ◌-◌, ◌<◌, ◌≤◌, false, length, drop, is_some, sym, ◌∙◌, ap, arith, ⊎_elim, length-drop}
use Rattle.std.proofs.lemmas.Bool.{cases_lt}
use Rattle.std.proofs.lemmas.List.{take_rest}
use Rattle.tap_bridge.specs.Grammar.{directive_at}
use Rattle.tap_bridge.proofs.DirectiveLemmas.{place_is, none_until, no_sign}
use Rattle.tap_bridge.proofs.directive.directive_place.Goals as goal
use Rattle.tap_bridge.proofs.directive.directive_place.Goals.{else-place-gt0-via-then-place-gt0+else-is_some, else-place-gt0-via-else-place-gt0}

pub returns-then-is_some-clause-place : goal.returns-then-is_some-clause-place
returns-then-is_some-clause-place c =
    let bytes = c.args.bytes.now in
    let from = c.loop-ahead.from in
    let rest = take_rest bytes from in
    let found = c.in-Some.ensures in
    let within : from + c.in-Some.ahead < length bytes = omega (arith, found.0.high, ap length rest, length-drop from bytes) in
    place_is bytes (from + c.in-Some.ahead - 1) (omega arith)
    (λ k below. none_until bytes from (from + c.in-Some.ahead) c.loop-ahead.invariant.none (λ j low high inside. no_sign bytes _ from c.in-Some.ahead rest found.0.before j low high) k (omega arith))
    (λ below. ap is_some (ap directive_at (sym (take_rest bytes (from + c.in-Some.ahead - 1))) ∙ sym c.directive_at.ensures) ∙ sym c.is_some.ensures ∙ c.if-is_some.true)

pub loop-ahead-preserved : goal.loop-ahead-preserved
loop-ahead-preserved c =
    let bytes = c.args.bytes.now in
    let from = c.loop-ahead.from in
    let rest = take_rest bytes from in
    let found = c.in-Some.ensures in
    let within : from + c.in-Some.ahead < length bytes = omega (arith, found.0.high, ap length rest, length-drop from bytes) in
    let last : (k : ℕ) → k + 1 ≡ from + c.in-Some.ahead → is_some (directive_at (drop k bytes)) ≡ false = λ k is.
    elim c.else-place-gt0.branch [
      | else-place-gt0-via-then-place-gt0+else-is_some w ↦
          let place : k ≡ from + c.in-Some.ahead - 1 = omega arith in
          ap (λ n. is_some (directive_at (drop n bytes))) place
          ∙ ap is_some (ap directive_at (sym (take_rest bytes (from + c.in-Some.ahead - 1))) ∙ sym w.directive_at.ensures) ∙ sym w.is_some.ensures ∙ w.if-is_some.false
      | else-place-gt0-via-else-place-gt0 w ↦ absurd (omega (arith, w.if-place-gt0.false))
    ] in
    record {
      in_range = omega arith;
      none = λ k below. ⊎_elim
          (λ (early : k + 1 < from + c.in-Some.ahead). none_until bytes from (from + c.in-Some.ahead) c.loop-ahead.invariant.none (λ j low high inside. no_sign bytes _ from c.in-Some.ahead rest found.0.before j low high) k early)
          (λ (late : from + c.in-Some.ahead ≤ k + 1). last k (omega arith))
          (cases_lt (k + 1) (from + c.in-Some.ahead));
    }

pub returns-clause-place : goal.returns-clause-place
returns-clause-place c =
    let bytes = c.args.bytes.now in
    let from = c.loop-ahead.from in
    let rest = take_rest bytes from in
    let none = c.in_default.ensures in
    place_is bytes (length bytes) (omega arith)
    (λ k below. none_until bytes from (length bytes + 1) c.loop-ahead.invariant.none
    (λ j low high inside. no_sign bytes _ from _ rest none j low (omega (arith, ap length rest, length-drop from bytes))) k (omega arith))
    (λ below. absurd (omega arith))

use Rattle.std.proofs.Common.{◌≡◌, ◌-◌, ◌++◌, ◌∙◌, map, ap, arith}
use Rattle.std.specs.List.{range_with_len}
use Rattle.tap_bridge.specs.Events.{missing_event}
use Rattle.tap_bridge.proofs.EventLemmas.{missing_push}
use Rattle.tap_bridge.proofs.SizeLemmas.{fit_push}
use Rattle.tap_bridge.proofs.event.add_missing.Goals as goal

pub loop-number-preserved : goal.loop-number-preserved
loop-number-preserved c = record {
  low = omega arith;
  high = omega arith;
  given = c.in_ok-push.ensures.items ∙ missing_push _ _ _ c.args.first c.loop-number.number c.loop-number.invariant.low c.loop-number.invariant.given c.in_ok-missing_event.ensures.event;
  fits = λ fit. fit_push c.loop-number.events.items _ _ c.in_ok-push.ensures.items (c.loop-number.invariant.fits fit) c.in_ok-missing_event.ensures.fits;
}

pub returns-clause-events : goal.returns-clause-events
returns-clause-events c =
    let size : c.loop-number.number - c.args.first ≡ c.args.behind - c.args.first = omega arith in
    c.loop-number.invariant.given ∙ ap (λ n. c.args.events.now.items ++ map missing_event (range_with_len c.args.first n)) size

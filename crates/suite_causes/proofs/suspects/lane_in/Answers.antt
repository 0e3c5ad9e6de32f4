use Rattle.std.proofs.Common.{◌≡◌, ◌+◌, ◌-◌, ℕ, true, false, nat_eq, refl, sym, ap, ◌∙◌, arith}
use Rattle.std.specs.Cmp.Lexicographic.{pointwise}
use Rattle.std.specs.Fmt.{decimal}
use Rattle.std.specs.List.{find, range_with_len}
use Rattle.packet_codec.specs.Lanes.{lane_name}
use Rattle.suite_causes.proofs.SuspectLemmas.{find_on, find_here}
use Rattle.suite_causes.proofs.suspects.lane_in.Goals as goal

pub returns-then-is_lane : goal.returns-then-is_lane
returns-then-is_lane c =
    let lane : ℕ = c.loop-lane.lane in
    let here : pointwise nat_eq (lane_name c.args.route.now) (decimal lane) ≡ true = ap (λ n. pointwise nat_eq n (decimal lane)) (sym c.lane_name-name.ensures) ∙ sym c.is_lane.ensures ∙ c.if-is_lane.true in
    sym (c.loop-lane.invariant ∙ find_here (λ k. pointwise nat_eq (lane_name c.args.route.now) (decimal k)) lane (64 - lane) (63 - lane) (omega (arith, c.loop-lane-test.true)) here)

pub loop-lane-preserved : goal.loop-lane-preserved
loop-lane-preserved c =
    let lane : ℕ = c.loop-lane.lane in
    let other : pointwise nat_eq (lane_name c.args.route.now) (decimal lane) ≡ false = ap (λ n. pointwise nat_eq n (decimal lane)) (sym c.lane_name-name.ensures) ∙ sym c.is_lane.ensures ∙ c.if-is_lane.false in
    c.loop-lane.invariant ∙ find_on (λ k. pointwise nat_eq (lane_name c.args.route.now) (decimal k)) lane (64 - lane) (lane + 1) (64 - (lane + 1)) (omega (arith, c.loop-lane-test.true)) refl other

pub returns : goal.returns
returns c =
    let lane : ℕ = c.loop-lane.lane in
    let none : 64 - lane ≡ 0 = omega (arith, c.loop-lane-test.false) in
    sym (c.loop-lane.invariant ∙ ap (λ n. find (λ k. pointwise nat_eq (lane_name c.args.route.now) (decimal k)) (range_with_len lane n)) none)

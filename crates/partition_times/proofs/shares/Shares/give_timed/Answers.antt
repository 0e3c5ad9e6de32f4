use Rattle.std.proofs.Common.{◌≡◌, ◌*◌, ◌^◌, ◌≤◌, ap, ◌∙◌, sym, arith, length, map}
use Rattle.partition_times.specs.Shares.{Times, given_to_least, known_time, least_share}
use Rattle.partition_times.specs.Ranked.{AreKnown}
use Rattle.partition_times.proofs.LoopLemmas.{one_more_done, holds_here}
use Rattle.partition_times.proofs.ShareLemmas.{length-given}
use Rattle.partition_times.proofs.shares.Shares.give_timed.Goals as goal

pub loop-rank-preserved : goal.loop-rank-preserved
loop-rank-preserved c =
    let lists = c.loop-rank.self.lists.items in
    let rest = c.loop-rank.rank-iterator in
    let next = c.next.new.self in
    let kept = c.loop-rank.invariant in
    let known = λ (times : Times) (are : AreKnown times c.args.groups).
    holds_here (λ e. (e.0.time.0 ≡ known_time times e.1.items) × (e.0.time.0 ≤ length e.1.items * 2 ^ 64)) c.loop-rank.yielded rest next c.args.groups.entries (c.in-Some.rank, c.in-Some.ids) kept.parts c.in-Some.ensures.steps are in
    let times = kept.queue.0 in
    let step = c.in_ok-give_to_least.ensures times kept.queue.1 (known times kept.queue.2).0 in
    record {
      parts = one_more_done c.loop-rank.yielded rest next c.args.groups.entries (c.in-Some.rank, c.in-Some.ids) kept.parts c.in-Some.ensures.steps;
      some = omega (arith, kept.some, ap length step.0, length-given lists (least_share times lists) c.in-Some.ids.items);
      queue = (times, step.1, kept.queue.2);
      given = λ times start are.
          let before = kept.given times start are in
          let step = c.in_ok-give_to_least.ensures times before.0 (known times are).0 in (
            step.1,
            ap (λ l. given_to_least times l (map (λ e. e.1.items) next)) step.0 ∙ sym (ap (λ r. given_to_least times lists (map (λ e. e.1.items) r)) c.in-Some.ensures.steps) ∙ before.1,
          );
    }

use Rattle.std.proofs.Common.{[], ◌∷◌, ◌++◌, ◌+◌, ◌∙◌, sym, ap, map, drop, take, length}
use Rattle.std.specs.Prelude.{◌-◌}
use Rattle.outcome_fold.specs.declared.summary.Timed.{Timed}
use Rattle.outcome_fold.specs.Summed.{shown_time}
use Rattle.outcome_fold.specs.Longest.{ends_before}
use Rattle.outcome_fold.proofs.LastsLemmas.{keeps_more, keeps_none, kept_all}
use Rattle.outcome_fold.proofs.longest_times.keep_longest.Goals.{then-is_last+in_ok-push, else-is_last}
use Rattle.outcome_fold.proofs.longest_times.keep_longest.Goals as goal

pub loop-place-preserved : goal.loop-place-preserved
loop-place-preserved c = elim c.if-is_last.branch [
  | then-is_last+in_ok-push w ↦ keeps_more shown_time c.args.sorted.now c.loop-place.place c.index-sorted-place.result c.loop-place-test.true c.loop-place.longest.items _ c.loop-place.invariant c.if-is_last.longest.items
      (ap (λ v. v.items) w.longest-is ∙ w.in_ok-push.ensures.items ∙ ap (λ (one : Timed). c.loop-place.longest.items ++ one ∷ []) c.index-sorted-place.is) (ap (λ (one : Timed). ends_before (shown_time one) (map shown_time (take (length c.args.sorted.now - (c.loop-place.place + 1)) (drop (c.loop-place.place + 1) c.args.sorted.now)))) (sym c.index-sorted-place.is) ∙ sym c.is_last.ensures ∙ w.if-is_last.true)
  | else-is_last w ↦ keeps_none shown_time c.args.sorted.now c.loop-place.place c.index-sorted-place.result c.loop-place-test.true c.loop-place.longest.items _ c.loop-place.invariant c.if-is_last.longest.items (ap (λ v. v.items) w.longest-is)
      (ap (λ (one : Timed). ends_before (shown_time one) (map shown_time (take (length c.args.sorted.now - (c.loop-place.place + 1)) (drop (c.loop-place.place + 1) c.args.sorted.now)))) (sym c.index-sorted-place.is) ∙ sym c.is_last.ensures ∙ w.if-is_last.false)
]

pub returns : goal.returns
returns c = kept_all shown_time c.args.sorted.now c.loop-place.place c.loop-place.longest.items _ c.loop-place-test.false c.loop-place.invariant

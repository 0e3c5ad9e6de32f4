use Rattle.std.proofs.Common.{◌∙◌, ◌∷◌, [], ◌++◌, ap, sym, refl}
use Rattle.outcome_fold.proofs.SummedLemmas.{filter_takes, filter_skips, counted_by, taken}
use Rattle.outcome_fold.specs.Answers.{row_fails}
use Rattle.outcome_fold.proofs.summary.Summary.take.Goals as goal

pub returns-then-fails : goal.returns-then-fails
returns-then-fails c = λ rows sums. record {
  failing = c.in_ok-push.ensures.items ∙ ap (λ failing. failing ++ c.args.row ∷ []) sums.failing ∙ sym (filter_takes row_fails rows c.args.row (sym c.fails.ensures ∙ c.if-fails.true));
  counts = counted_by c.args.filter_tags.now c.list.result.now rows (rows ++ c.args.row ∷ []) _ _ c.list.ensures sums.counts (c.in_ok-self.ensures rows);
  times = c.in_ok-take_time.ensures.times rows c.args.row (record { id_is = sym c.in_ok-id.ensures; how_is = refl; time_is = refl }) sums.times;
  untimed = c.in_ok-take_time.ensures.untimed rows c.args.row (record { id_is = sym c.in_ok-id.ensures; how_is = refl; time_is = refl }) sums.untimed;
}

pub returns : goal.returns
returns c = λ rows sums.
    taken c.args.filter_tags.now (rows ++ c.args.row ∷ []) _ c.take_time-2.result
    (sums.failing ∙ sym (filter_skips row_fails rows c.args.row (sym c.fails.ensures ∙ c.if-fails.false)))
    (counted_by c.args.filter_tags.now c.list.result.now rows (rows ++ c.args.row ∷ []) _ _ c.list.ensures sums.counts (c.in_ok-self.ensures rows))
    (c.take_time-2.ensures.times rows c.args.row (record { id_is = refl; how_is = refl; time_is = refl }) sums.times)
    (c.take_time-2.ensures.untimed rows c.args.row (record { id_is = refl; how_is = refl; time_is = refl }) sums.untimed)

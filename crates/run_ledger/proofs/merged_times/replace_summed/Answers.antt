use Rattle.std.proofs.Common.{◌≡◌, ◌∙◌, List, ℕ, map, ap, sym, subst, All}
use Rattle.std.specs.FinMap.{FinMap}
use Rattle.sub_number.specs.Texts.{IsShortText}
use Rattle.outcome_fold.specs.declared.summary.Timed.{Timed}
use Rattle.outcome_fold.specs.Answers.{times_of}
use Rattle.outcome_fold.specs.Order.{text_cmp}
use Rattle.outcome_fold.specs.Summed.{shown_time, times_kept}
use Rattle.run_ledger.specs.Ledger.{replaced}
use Rattle.run_ledger.proofs.EntryLemmas.{same_times}
use Rattle.run_ledger.proofs.MergeLemmas.{summed_replaced, timed_each}
use Rattle.run_ledger.proofs.merged_times.replace_summed.Goals as goal

pub from_vec-requires : goal.from_vec-requires
from_vec-requires c =
    let kept : FinMap text_cmp ℕ = times_kept c.args.summary.now in
    let passed : List Timed = c.deref.result.now in
    let same : passed ≡ c.in_ok-later.later.items = c.deref.ensures.value in
    let texts = subst (All (λ (t : Timed). IsShortText t.id.now)) (sym same) c.in_ok-later.ensures.texts in (
      replaced c.args.latest.now kept,
      summed_replaced kept (map shown_time passed) c.args.latest.now c.bytes.result.now c.in_ok-bytes.bytes.items (ap (map shown_time) same ∙ c.in_ok-later.ensures.kept)
          (timed_each shown_time passed texts c.in_ok-bytes.ensures.small) c.bytes.ensures c.in_ok-bytes.ensures.bytes,
    )

pub returns : goal.returns
returns c filter_tags rows sums =
    let passed : List Timed = c.deref.result.now in
    let same : passed ≡ c.in_ok-later.later.items = c.deref.ensures.value in
    let texts = subst (All (λ (t : Timed). IsShortText t.id.now)) (sym same) c.in_ok-later.ensures.texts in
    same_times c.in_ok-bytes.bytes.items c.from_vec.result (replaced c.args.latest.now (times_of rows)) c.from_vec.ensures
    (summed_replaced (times_of rows) (map shown_time passed) c.args.latest.now c.bytes.result.now c.in_ok-bytes.bytes.items (ap (map shown_time) same ∙ c.in_ok-later.ensures.times filter_tags rows sums)
    (timed_each shown_time passed texts c.in_ok-bytes.ensures.small) c.bytes.ensures c.in_ok-bytes.ensures.bytes)

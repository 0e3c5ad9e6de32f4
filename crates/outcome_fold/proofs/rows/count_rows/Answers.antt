use Rattle.std.proofs.Common.{◌≡◌, ◌+◌, ◌≤◌, ◌<◌, ◌^◌, ℕ, List, [], ◌∷◌, ◌++◌, take, true, false, length, get_or, ◌∙◌, sym, arith}
use Rattle.std.specs.Option.{unwrap_or}
use Rattle.outcome_fold.specs.declared.row.Row.{Row}
use Rattle.outcome_fold.specs.declared.row.Counts.{Counts}
use Rattle.outcome_fold.specs.Answers.{is_counted, counted_rows, counts_in}
use Rattle.outcome_fold.proofs.CountLemmas.{rows_take, counts_skip}
use Rattle.outcome_fold.proofs.rows.count_rows.Invariants.{IsCounted}
use Rattle.outcome_fold.proofs.rows.count_rows.Goals.{then-is_counted, else-is_counted}
use Rattle.outcome_fold.proofs.rows.count_rows.Goals as goal

-- what one row more leaves
record Grown (old next : Counts) (row : Row) : Type 0 where
  pub counted : (rows : List Row) → old ≡ counts_in rows → next ≡ counts_in (rows ++ row ∷ [])
  pub total : next.total ≤ old.total + 1
  pub passed : next.passed ≤ old.passed + 1
  pub failed : next.failed ≤ old.failed + 1
  pub skipped : next.skipped ≤ old.skipped + 1
  pub nanos : unwrap_or next.nanos 0 ≤ unwrap_or old.nanos 0 + 2 ^ 64

takes : (old next : Counts) (tags : List (List ℕ)) (rows : List Row) (i : ℕ) (row : Row) → IsCounted old tags rows i → i < length rows → row ≡ get_or rows i row → is_counted tags row ≡ true → Grown old next row → IsCounted next tags rows (i + 1)
takes old next tags rows i row h below is counts grown = record {
  counted = grown.counted (counted_rows tags (take i rows)) h.counted ∙ rows_take tags rows i row below is counts;
  total = omega (arith, h.total, grown.total);
  passed = omega (arith, h.passed, grown.passed);
  failed = omega (arith, h.failed, grown.failed);
  skipped = omega (arith, h.skipped, grown.skipped);
  nanos = omega (arith, h.nanos, grown.nanos);
}

skips : (old next : Counts) (tags : List (List ℕ)) (rows : List Row) (i : ℕ) (row : Row) → IsCounted old tags rows i → i < length rows → row ≡ get_or rows i row → is_counted tags row ≡ false → next ≡ old → IsCounted next tags rows (i + 1)
skips old next tags rows i row h below is skipped same = rw same (record {
  counted = h.counted ∙ sym (counts_skip tags rows i row below is skipped);
  total = omega (arith, h.total);
  passed = omega (arith, h.passed);
  failed = omega (arith, h.failed);
  skipped = omega (arith, h.skipped);
  nanos = omega (arith, h.nanos);
})

pub loop-row-preserved : goal.loop-row-preserved
loop-row-preserved c = elim c.if-is_counted.branch [
  | then-is_counted w ↦ rw w.counts-is (takes c.loop-row.counts _ _ _ _ c.row-item.result c.loop-row.invariant c.loop-row-test.true c.row-item.is (sym c.is_counted.ensures ∙ w.if-is_counted.true) (record {
    counted = w.with-counts.ensures.counted;
    total = w.with-counts.ensures.total;
    passed = w.with-counts.ensures.passed;
    failed = w.with-counts.ensures.failed;
    skipped = w.with-counts.ensures.skipped;
    nanos = w.with-counts.ensures.nanos;
  }))
  | else-is_counted w ↦ skips c.loop-row.counts _ _ _ _ c.row-item.result c.loop-row.invariant c.loop-row-test.true c.row-item.is (sym c.is_counted.ensures ∙ w.if-is_counted.false) w.counts-is
]

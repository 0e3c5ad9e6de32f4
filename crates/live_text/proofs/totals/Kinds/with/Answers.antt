use Rattle.std.proofs.Common.{sym}
use Rattle.outcome_fold.specs.Rows.{is_skip}
use Rattle.live_text.specs.Totals.{is_success, is_expected, is_unexpected, is_failed}
use Rattle.live_text.proofs.totals.Kinds.with.Goals as goal

pub returns : goal.returns
returns c rows has = record {
  success = c.in_ok-sum_with.ensures (λ row. is_success row.ended) rows (sym c.is_success.ensures) has.success;
  skipped = c.in_ok-sum_with-2.ensures (λ row. is_skip row.ended) rows (sym c.is_skipped.ensures) has.skipped;
  expected = c.in_ok-sum_with-3.ensures (λ row. is_expected row.ended) rows (sym c.is_expected.ensures) has.expected;
  unexpected = c.in_ok-sum_with-4.ensures (λ row. is_unexpected row.ended) rows (sym c.is_unexpected.ensures) has.unexpected;
  failed = c.in_ok-sum_with-5.ensures (λ row. is_failed row.ended) rows (sym c.is_failed.ensures) has.failed;
}

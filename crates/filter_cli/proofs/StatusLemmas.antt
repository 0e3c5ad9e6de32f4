-- The status of a filter is 0 or 1.
use Rattle.std.proofs.Common.{ℕ, ◌≤◌, Bool, true, false, ◌||◌, ◌==◌, nat_lt, if◌then◌else◌, List, ◌++◌, arith}
use Rattle.std.specs.List.{list_any}
use Rattle.outcome_fold.specs.Rows.{completed_rows, open_rows, rows_of}
use Rattle.outcome_fold.specs.Answers.{row_fails}
use Rattle.live_text.specs.Totals.{sum_of}
use Rattle.filter_cli.specs.Events.{events_among}
use Rattle.filter_cli.specs.Streams.{writing_of, ends_by}
use Rattle.filter_cli.specs.TapRows.{tap_rows}
use Rattle.filter_cli.specs.declared.request.Asked.{Asked}
use Rattle.filter_cli.specs.declared.request.Asked.TheVariants.{Filter, Tags, Ls, Stats, FromTap, ToTap, ToCsv, ToJunit, Output, FromV1, ToV1, Tracing}

one_at_most : (b : Bool) → (if b then 1 else 0) ≤ 1
one_at_most true = omega arith
one_at_most false = omega arith

pub status_at_most : (asked : Asked) (bytes text : List ℕ) (status : ℕ) → ends_by (writing_of asked) bytes text status → status ≤ 1
status_at_most (Filter selection) bytes text status w = omega (arith, w.status)
status_at_most (Tags retagging) bytes text status w = omega (arith, w.status)
status_at_most (Ls listing) bytes text status w =
    let few = one_at_most (list_any row_fails (completed_rows (events_among w.notes) ++ open_rows (events_among w.notes))) in
    omega (arith, few, w.status)
status_at_most (Stats counting) bytes text status w =
    let few = one_at_most (list_any row_fails (rows_of (events_among w.notes))) in
    omega (arith, few, w.status)
status_at_most FromTap bytes text status w = omega (arith, w.status)
status_at_most ToTap bytes text status w =
    let few = one_at_most (list_any row_fails (tap_rows (events_among w.notes))) in
    omega (arith, few, w.status)
status_at_most (ToCsv selection) bytes text status w = omega (arith, w.holds.status)
status_at_most (Output job) bytes text status w = omega (arith, w.1)
status_at_most ToJunit bytes text status w =
    let few = one_at_most (list_any row_fails (rows_of (events_among w.notes))) in
    omega (arith, few, w.status)
status_at_most FromV1 bytes text status w = omega (arith, w.status)
status_at_most ToV1 bytes text status w = omega (arith, w.status)
status_at_most (Tracing trace) bytes text status w =
    let all = sum_of (tap_rows (events_among w.notes)) in
    let few = one_at_most (nat_lt 0 all.failed || all.total == 0) in
    omega (arith, few, w.status)

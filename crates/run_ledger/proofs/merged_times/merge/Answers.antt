use Rattle.std.proofs.Common.{◌≡◌, ◌<◌, ◌^◌, List, ℕ, ◌++◌, All, take, sym, subst}
use Rattle.std.specs.List.{flat_map}
use Rattle.std.proofs.lemmas.List.{take_all, take_more}
use Rattle.std.proofs.lemmas.List.Elements.{All-nil, All-push}
use Rattle.run_ledger.specs.Caches.{time_entry}
use Rattle.outcome_fold.specs.declared.summary.Timed.{Timed}
use Rattle.outcome_fold.specs.Summed.{shown_time}
use Rattle.run_ledger.specs.Merging.{AreEntriesOfTimes, below, not_below, past}
use Rattle.run_ledger.proofs.MergeLemmas.{merge_none, merge_more, merge_all, next_left, none_left}
use Rattle.run_ledger.proofs.merged_times.merge.Goals as goal

abbrev IsSmall : Timed → Type 0
IsSmall timed = timed.nanos < 2 ^ 64

pub loop-timed-init : goal.loop-timed-init
loop-timed-init c = record { merges = λ entries are. merge_none _ _ entries _ c.in_ok-bytes.ensures.items are; small = All-nil IsSmall }

pub loop-timed-preserved : goal.loop-timed-preserved
loop-timed-preserved c =
    let within = c.loop-timed-test.true in
    let rest = subst (λ (one : Timed). (each : List (List ℕ × ℕ)) → AreEntriesOfTimes c.loop-timed.rest.now each → AreEntriesOfTimes c.in_ok-rest.rest.now (past (shown_time one).0 (not_below (shown_time one).0 each))) c.timed-item.is c.in_ok-rest.ensures.rest in
    let bytes = subst (λ (one : Timed). (each : List (List ℕ × ℕ)) → AreEntriesOfTimes c.loop-timed.rest.now each → c.put_among.new.bytes.items ≡ c.loop-timed.bytes.items ++ (flat_map time_entry (below (shown_time one).0 each) ++ time_entry (shown_time one))) c.timed-item.is c.in_ok-rest.ensures.bytes in
    record {
      merges = λ entries are.
          merge_more c.loop-timed.bytes.items c.loop-timed.rest.now c.in_ok-rest.rest.now c.put_among.new.bytes.items _ _ _ _ (next_left shown_time c.args.later.now c.loop-timed.timed-index c.timed-item.result within) (c.loop-timed.invariant.merges entries are) rest bytes;
      small = subst (All IsSmall) (sym (take_more c.args.later.now c.loop-timed.timed-index c.timed-item.result within)) (All-push IsSmall (take c.loop-timed.timed-index c.args.later.now) _ c.loop-timed.invariant.small (subst IsSmall c.timed-item.is c.in_ok-rest.ensures.small));
    }

pub returns-clause-bytes : goal.returns-clause-bytes
returns-clause-bytes c entries are =
    merge_all c.loop-timed.bytes.items c.loop-timed.rest.now _ _ _ (none_left shown_time c.args.later.now c.loop-timed.timed-index c.loop-timed-test.false) (c.loop-timed.invariant.merges entries are) c.in_ok-extend_from_slice.ensures.items

pub returns-clause-small : goal.returns-clause-small
returns-clause-small c = subst (All IsSmall) (take_all c.loop-timed.timed-index c.args.later.now c.loop-timed-test.false) c.loop-timed.invariant.small

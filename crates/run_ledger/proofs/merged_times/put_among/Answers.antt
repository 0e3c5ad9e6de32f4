use Rattle.std.proofs.Common.{List, ℕ, ◌++◌, ap, ◌∙◌, append_assoc, subst}
use Rattle.std.specs.List.{flat_map}
use Rattle.run_ledger.specs.Caches.{time_entry}
use Rattle.outcome_fold.specs.Summed.{shown_time}
use Rattle.run_ledger.specs.Merging.{AreEntriesOfTimes, below, not_below}
use Rattle.run_ledger.proofs.MergeLemmas.{front_below}
use Rattle.run_ledger.proofs.merged_times.put_among.Goals as goal

pub returns-clause-bytes : goal.returns-clause-bytes
returns-clause-bytes c each are =
    let id = c.args.timed.now.id.now in
    let front = front_below c.args.entries.now c.skip_below-rest.result.now id each are (subst (λ (id : List ℕ). AreEntriesOfTimes c.skip_below-rest.result.now (not_below id each)) c.bytes.ensures.bytes (c.skip_below-rest.ensures.rest each are)) in
    c.in_ok-put_entry.ensures.bytes
    ∙ ap (λ (l : List ℕ). l ++ time_entry (shown_time c.args.timed.now)) (c.in_ok-extend_from_slice.ensures.items ∙ ap (λ (l : List ℕ). c.args.bytes.now.items ++ l) front)
    ∙ append_assoc c.args.bytes.now.items (flat_map time_entry (below id each)) (time_entry (shown_time c.args.timed.now))

use Rattle.std.proofs.Common.{option_copied}
use Rattle.std.proofs.lemmas.Bool.{both_ways}
use Rattle.run_ledger.proofs.EntryLemmas.{none_so_far, one_more, not_next, all_so_far, none_so, ends_at}
use Rattle.run_ledger.proofs.entries.are_entries.Goals.{then-not-comes_after-via-then-not-comes_after, then-not-comes_after-via-else-not-comes_after+then-not-is_short_text}
use Rattle.run_ledger.proofs.entries.are_entries.Goals as goal

pub loop-id-init : goal.loop-id-init
loop-id-init c = none_so_far c.args.bytes.now

pub loop-id-preserved : goal.loop-id-preserved
loop-id-preserved c =
    one_more _ _ (option_copied c.loop-id.last) c.loop-id.invariant c.in-Some.id.now c.in-Some.field-0-1 c.in-Some.behind.now c.in-Some.ensures.some (c.comes_after.ensures.0 c.if-not-comes_after.false)
    (c.is_short_text.ensures.0 c.if-not-is_short_text.false)

pub returns-then-not-comes_after : goal.returns-then-not-comes_after
returns-then-not-comes_after c = elim c.then-not-comes_after.branch [
  | then-not-comes_after-via-then-not-comes_after w ↦ not_next _ _ (option_copied c.loop-id.last) c.loop-id.invariant c.in-Some.id.now c.in-Some.field-0-1 c.in-Some.behind.now c.in-Some.ensures.some
      (λ above text. both_ways c.comes_after.result w.if-not-comes_after.true (c.comes_after.ensures.1 above))
  | then-not-comes_after-via-else-not-comes_after+then-not-is_short_text w ↦ not_next _ _ (option_copied c.loop-id.last) c.loop-id.invariant c.in-Some.id.now c.in-Some.field-0-1 c.in-Some.behind.now c.in-Some.ensures.some
      (λ above text. both_ways w.is_short_text.result w.if-not-is_short_text.true (w.is_short_text.ensures.1 text))
]

pub returns : goal.returns
returns c =
    ends_at c.is_empty.result c.loop-id.rest.now c.is_empty.ensures (all_so_far _ _ (option_copied c.loop-id.last) c.loop-id.invariant) (none_so _ _ (option_copied c.loop-id.last) c.loop-id.invariant c.in_default.ensures.none)

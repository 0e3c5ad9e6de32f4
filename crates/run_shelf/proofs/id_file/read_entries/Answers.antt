use Rattle.std.proofs.Common.{◌++◌, sym, ap, subst, List, ℕ, Ok}
use Rattle.std.specs.List.{flat_map}
use Rattle.run_shelf.specs.IdFiles.{with_zero, AreIds}
use Rattle.run_shelf.proofs.IdFormLemmas.{no_ids, next_refused, end_refused, not_empty}
use Rattle.run_shelf.proofs.id_file.read_entries.Goals as goal

pub loop-id-init : goal.loop-id-init
loop-id-init c = record {
  is = ap (λ (l : List (List ℕ)). flat_map with_zero l ++ c.args.bytes.now) (sym c.new-ids.ensures);
  are = subst AreIds (sym c.new-ids.ensures) no_ids;
}

pub returns-then-not-branch-clause-none : goal.returns-then-not-branch-clause-none
returns-then-not-branch-clause-none c =
    next_refused c.args.bytes.now c.loop-id.ids c.in-Some.id.now c.loop-id.rest.now c.in-Some.behind.now c.loop-id.invariant.are c.loop-id.invariant.is c.in-Some.ensures.some.is c.in-Some.ensures.some.first
    (c.in_ok-push_id.ensures.not_added (ap Ok c.if-not-branch.true))

pub returns-else-is_empty-clause-none : goal.returns-else-is_empty-clause-none
returns-else-is_empty-clause-none c =
    end_refused c.args.bytes.now c.loop-id.ids c.loop-id.rest.now c.loop-id.invariant.are c.loop-id.invariant.is c.in_default.ensures.none
    (not_empty c.loop-id.rest.now c.if-is_empty.ensures)

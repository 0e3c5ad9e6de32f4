use Rattle.std.proofs.Common.{sym, ◌∙◌}
use Rattle.event_sift.specs.Keeping.{keeps}
use Rattle.event_sift.proofs.SiftLemmas.{row_same, is_kept, is_not_kept}
use Rattle.event_sift.proofs.sift.Sift.if_kept.Goals as goal

pub returns-then-branch-clause-kept : goal.returns-then-branch-clause-kept
returns-then-branch-clause-kept g c =
    is_kept (keeps c.args.self.now.rules.now) _ _ c.args.part _
    (row_same c.args.key c.args.ended c.args.part c.args.end _ _ _ _ _ c.events.ensures c.start_of.ensures c.elapsed-nanos.ensures c.events-2.ensures c.in_ok-row.ensures)
    (sym c.in_ok-is_kept.ensures.kept ∙ c.if-branch.true) c.into_events.ensures

pub returns-else-branch-clause-kept : goal.returns-else-branch-clause-kept
returns-else-branch-clause-kept g c =
    is_not_kept (keeps c.args.self.now.rules.now) _ _ c.args.part _
    (row_same c.args.key c.args.ended c.args.part c.args.end _ _ _ _ _ c.events.ensures c.start_of.ensures c.elapsed-nanos.ensures c.events-2.ensures c.in_ok-row.ensures)
    (sym c.in_ok-is_kept.ensures.kept ∙ c.if-branch.false) c.new.ensures.items

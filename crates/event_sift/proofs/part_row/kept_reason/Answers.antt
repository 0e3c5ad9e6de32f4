use Rattle.std.proofs.Common.{◌∙◌, ap, take, ◌++◌}
use Rattle.outcome_fold.specs.Parts.{reason_limit}
use Rattle.event_sift.proofs.PartLemmas.{reason_take}
use Rattle.event_sift.proofs.part_row.kept_reason.Goals as goal

pub loop-event-preserved : goal.loop-event-preserved
loop-event-preserved c =
    reason_take _ _ _ _ _ c.loop-event-test.true c.event-item.is c.loop-event.invariant
    (c.in_ok-append_reason.ensures.ok ∙ ap (λ piece. take reason_limit (c.loop-event.reason ++ piece)) c.reason_in.ensures)

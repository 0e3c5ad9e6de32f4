use Rattle.std.proofs.Common.{◌∙◌, sym, ap, Some, None}
use Rattle.event_sift.proofs.PartLemmas.{tags_take}
use Rattle.event_sift.proofs.part_row.last_tags.Goals.{in-Some, in_default}
use Rattle.event_sift.proofs.part_row.last_tags.Goals as goal

pub loop-event-preserved : goal.loop-event-preserved
loop-event-preserved c = elim c.match-event.branch [
  | in-Some w ↦ ap (λ r. r.now) w.last-is ∙ w.list-last.ensures ∙ sym (tags_take c.args.part.now c.loop-event.event-index c.event-item.result (Some w.in-Some.tags) c.loop-event-test.true c.event-item.is w.in-Some.is)
  | in_default w ↦ ap (λ r. r.now) w.last-is ∙ c.loop-event.invariant ∙ sym (tags_take c.args.part.now c.loop-event.event-index c.event-item.result None c.loop-event-test.true c.event-item.is w.in_default.is)
]

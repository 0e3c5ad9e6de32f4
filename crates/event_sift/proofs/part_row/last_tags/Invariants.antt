use Rattle.std.proofs.Common.{◌≡◌, take}
use Rattle.outcome_fold.specs.Parts.{last_tags}
use Rattle.event_sift.proofs.part_row.last_tags.Given as goal

abbrev pub invariant-loop-event : goal.invariant-loop-event
invariant-loop-event l = l.last ≡ last_tags (take l.event-index l.part)

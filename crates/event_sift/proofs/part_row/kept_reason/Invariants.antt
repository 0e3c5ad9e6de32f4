use Rattle.std.proofs.Common.{◌≡◌, take}
use Rattle.outcome_fold.specs.Parts.{reason_of}
use Rattle.event_sift.proofs.part_row.kept_reason.Given as goal

abbrev pub invariant-loop-event : goal.invariant-loop-event
invariant-loop-event l = l.reason ≡ reason_of (take l.event-index l.part)

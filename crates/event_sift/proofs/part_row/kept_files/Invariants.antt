use Rattle.std.proofs.Common.{◌≡◌, take}
use Rattle.outcome_fold.specs.Files.{files_of}
use Rattle.event_sift.proofs.part_row.kept_files.Given as goal

abbrev pub invariant-loop-event : goal.invariant-loop-event
invariant-loop-event l = l.files ≡ files_of (take l.event-index l.part)

use Rattle.std.proofs.Common.{◌∙◌, sym}
use Rattle.outcome_fold.specs.Files.{with_piece}
use Rattle.outcome_fold.proofs.FileLemmas.{files_none}
use Rattle.event_sift.proofs.PartLemmas.{files_take}
use Rattle.event_sift.proofs.part_row.kept_files.Goals as goal

pub loop-event-init : goal.loop-event-init
loop-event-init c = c.new-files.ensures ∙ sym files_none

pub loop-event-preserved : goal.loop-event-preserved
loop-event-preserved c =
    files_take _ _ _ _ _ c.loop-event-test.true c.event-item.is c.loop-event.invariant
    (c.in_ok-append.ensures.ok ∙ (λ i. with_piece c.loop-event.files (c.file_name_in.ensures i) (c.text_in.ensures i)))

-- What the outcomes of a run have taken so far (docs/FORMATS.md, "The fold").
use Rattle.std.specs.Prelude.{◌≡◌, List}
use Rattle.packet_codec.specs.declared.event.Event.{Event}
use Rattle.outcome_fold.specs.declared.fold.Outcomes.{Outcomes}
use Rattle.outcome_fold.specs.Rows.{completed_rows}
use Rattle.outcome_fold.specs.Folded.{HasSeen}

-- the outcomes have taken these events
pub record HasFolded (outcomes : Outcomes) (seen : List Event) : Type 0 where
  pub started : HasSeen outcomes.fold seen
  pub completed : outcomes.completed.items ≡ completed_rows seen

-- What a run that is written has so far (docs/FORMATS.md, "Streams" and "The fold").
use Rattle.std.specs.Prelude.{ℕ, List}
use Rattle.packet_codec.specs.declared.event.Event.{Event}
use Rattle.packet_codec.specs.Packets.{ArePacketsOf}
use Rattle.outcome_fold.specs.Summed.{HasSummed}
use Rattle.run_ledger.specs.declared.written_run.WrittenRun.{WrittenRun}

-- these events were heard, and their rows are summed up
abbrev pub HasHeardEvents : (filter_tags : List (List ℕ)) → WrittenRun → (events : List Event) → Type 0
HasHeardEvents filter_tags written events = HasSummed filter_tags written.summing events

-- the bytes written are the packets of events, whose rows are summed up
pub record HasWrittenRun (filter_tags : List (List ℕ)) (written : WrittenRun) (run : List ℕ) : Type 0 where
  pub events : List Event
  pub packets : ArePacketsOf events run
  pub folded : HasHeardEvents filter_tags written events

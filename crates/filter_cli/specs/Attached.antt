-- The events of a job whose file is the input (docs/COMMANDS.md, "subunit-output").
use Rattle.std.specs.Prelude.{◌≡◌, ℕ, ◌<◌, false, List, ◌++◌, length, Result, Ok, Err}
use Rattle.std.specs.Io.KnownBytes.{Appends}
use Rattle.edge_io.specs.Bytes.{AppendsPrefix}
use Rattle.edge_io.specs.Causes.{Rose}
use Rattle.edge_io.specs.Seen.{Seen}
use Rattle.filter_cli.specs.declared.filter.StreamEnd.{StreamEnd}
use Rattle.filter_cli.specs.declared.pump_loop.PumpFault.{PumpFault}
use Rattle.filter_cli.specs.declared.pump_loop.PumpFault.TheVariants.{Input, TooLong, Output, NoMemory}
use Rattle.std.specs.List.{concat, filter, flat_map}
use Rattle.std.specs.Option.{option_to_list}
use Rattle.packet_codec.specs.declared.event.Event.{Event}
use Rattle.packet_codec.specs.Canonical.{packets_of}
use Rattle.sub_export.specs.declared.job.Job.{Job}
use Rattle.sub_export.specs.Output.{attached_piece_event, pieces_of, output_events}
use Rattle.filter_cli.specs.Tap.{is_full}
use Rattle.filter_cli.specs.Tapped.{AreFull}

-- the events of these pieces of the file that the job attaches, in order; where it attaches none, there are no events
abbrev pub events_of_pieces : Job → List (List ℕ) → List Event
events_of_pieces job pieces = flat_map (λ piece. option_to_list (attached_piece_event job piece)) pieces

-- the text that first bytes of the file decide, whatever follows: the packets of their full pieces
abbrev pub IsOutputSeen : Job → List ℕ → List ℕ → Type 0
IsOutputSeen job bytes text = text ≡ packets_of (events_of_pieces job (filter is_full (pieces_of bytes)))

-- the text of the whole file, and its status: the packets of its pieces, and that of the job's last event; the status is
-- 0
abbrev pub IsAttachedOutput : Job → List ℕ → List ℕ → ℕ → Type 0
IsAttachedOutput job bytes text status = (text ≡ packets_of (output_events job bytes)) × (status ≡ 0)

-- With these bytes fed, all full pieces were given, and the rest is held.
pub record HasAttached (job : Job) (held fed shown : List ℕ) : Type 0 where
  pub pieces : List (List ℕ)
  pub joined : fed ≡ concat pieces ++ held
  pub full : AreFull pieces
  pub short : length held < 65536
  pub made : shown ≡ packets_of (events_of_pieces job pieces)

-- What is done with the output where the input is left unread: this text is written.
abbrev pub WritesAlone : List ℕ → Seen (List ℕ) → Seen (List ℕ) → Result StreamEnd PumpFault → Type 0
WritesAlone text before after (Ok end) = (end ≡ record { status = 0; inside = false }) × Appends before.told after.told text × (after.faults ≡ before.faults)
WritesAlone text before after (Err Input) = ⊥
WritesAlone text before after (Err TooLong) = ⊥
WritesAlone text before after (Err Output) = AppendsPrefix before.told after.told text × Rose before.faults after.faults
WritesAlone text before after (Err NoMemory) = after ≡ before

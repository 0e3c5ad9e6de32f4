-- What is recorded of the end of a lane (docs/FORMATS.md, "The end of a worker").
use Rattle.std.specs.Prelude.{◌≡◌, ℕ, zero, suc, ℤ, pos, negsuc, true, false, Some, None, ⊤, List, [], ◌∷◌, ◌++◌, codes}
use Rattle.std.specs.Fmt.{signed_decimal}
use Rattle.packet_codec.specs.declared.event.Event.{Event}
use Rattle.packet_codec.specs.declared.status.Status.TheVariants.{Fail}
use Rattle.packet_codec.specs.Canonical.{canonical, IsEvent, Fits}
use Rattle.packet_codec.specs.Routing.{under}
use Rattle.edge_io.specs.declared.child.Finish.{Finish}
use Rattle.edge_io.specs.declared.child.Finish.TheVariants.{Exit as Exits, ReadFault, WaitFault}
use Rattle.edge_io.specs.Children.{Output}
use Rattle.worker_lane.specs.declared.lot.Ending.{Ending}
use Rattle.worker_lane.specs.declared.lot.Ending.TheVariants.{Exit, Fault, NoMemory}
use Rattle.worker_lane.specs.declared.lot.Lot.{Lot}
use Rattle.worker_lane.specs.declared.lot.Lot.TheVariants.{Packet, End}

-- the ending of a lane whose child finishes so
abbrev pub ending_of : Finish → Ending
ending_of (Exits status) = Exit status
ending_of ReadFault = Fault
ending_of WaitFault = Fault

-- the text that tells of a status
abbrev pub returncode_text : ℤ → List ℕ
returncode_text status = codes "returncode " ++ signed_decimal status

-- the text that tells of a failed read or wait
abbrev pub read_fault_text : List ℕ
read_fault_text = codes "read fault"

-- a text has no more bytes than this
abbrev pub longest_text : ℕ
longest_text = 60

-- where its reads do not fail, a child that finishes so gives this ending
abbrev pub EndsSo : Ending → Output → Type 0
EndsSo how output = (output.finish ≡ ReadFault → ⊥) → ending_of output.finish ≡ how

-- the event that tells of the end, with this text
abbrev pub returncode_event : List ℕ → Event
returncode_event text = record {
  stamp = None;
  id = Some (codes "process-returncode");
  tags = None;
  runnable = true;
  status = Fail;
  mime = Some (codes "text/plain;charset=utf8");
  file = Some (record { name = codes "traceback"; bytes = text });
  eof = false;
  route = None;
}

-- the event with this text on the lane's end
abbrev pub returncode_under : (lane : ℕ) → List ℕ → Event
returncode_under lane text = under lane (returncode_event text)

-- the events that are recorded of an ending: none where the child ended with 0, and else one
abbrev pub ending_events : (lane : ℕ) → Ending → List Event
ending_events lane (Exit (pos zero)) = []
ending_events lane (Exit (pos (suc n))) = returncode_under lane (returncode_text (pos (suc n))) ∷ []
ending_events lane (Exit (negsuc n)) = returncode_under lane (returncode_text (negsuc n)) ∷ []
ending_events lane Fault = returncode_under lane read_fault_text ∷ []
ending_events lane NoMemory = []

-- the packet of an event under the lane
pub record IsPacketOf (lane : ℕ) (packet : List ℕ) : Type 0 where
  pub event : Event
  pub packet_is : packet ≡ canonical (under lane event)
  pub is_event : IsEvent (under lane event)
  pub fits : Fits (under lane event)

-- each packet is under the lane
abbrev pub IsLotOf : (lane : ℕ) → Lot → Type 0
IsLotOf lane (Packet packet) = IsPacketOf lane packet
IsLotOf lane (End how) = ⊤

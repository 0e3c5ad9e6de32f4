-- What a lane records of the tests that its job names and that were lost (docs/FORMATS.md, "Tests that were lost").
use Rattle.std.specs.Prelude.{◌≡◌, ℕ, zero, suc, pos, negsuc, Bool, true, false, not, ◌&&◌, Option, None, Some, List, [], ◌∷◌, length, All, nat_le}
use Rattle.std.specs.List.{filter, list_any, flat_map}
use Rattle.std.specs.Ordering.{eq_by_cmp}
use Rattle.sub_number.specs.Texts.{IsShortText}
use Rattle.outcome_fold.specs.Order.{text_cmp}
use Rattle.packet_codec.specs.Canonical.{canonical}
use Rattle.packet_codec.specs.Routing.{under}
use Rattle.packet_codec.specs.declared.event.Event.{Event}
use Rattle.packet_codec.specs.declared.status.Status.{Status}
use Rattle.packet_codec.specs.declared.status.Status.TheVariants as status
use Rattle.worker_lane.specs.Endings.{IsPacketOf}
use Rattle.worker_lane.specs.declared.lot.Ending.{Ending}
use Rattle.worker_lane.specs.declared.lot.Ending.TheVariants.{Exit, Fault, NoMemory}

-- an id that has more bytes is not named
abbrev pub longest_id : ℕ
longest_id = 65536

-- the ids of a job that can be named, in their order
abbrev pub named_ids : (ids : List (List ℕ)) → List (List ℕ)
named_ids ids = filter (λ id. nat_le (length id) longest_id) ids

-- each is a text
abbrev pub AreShortIds : (ids : List (List ℕ)) → Type 0
AreShortIds ids = All IsShortText ids

-- this id stands there
abbrev pub is_id : List ℕ → Option (List ℕ) → Bool
is_id id None = false
is_id id (Some other) = eq_by_cmp text_cmp id other

-- the status says that a test exists, and no more
abbrev pub is_exists : Status → Bool
is_exists status.Unset = false
is_exists status.Exists = true
is_exists status.InProgress = false
is_exists status.Success = false
is_exists status.UxSuccess = false
is_exists status.Skip = false
is_exists status.Fail = false
is_exists status.XFail = false

-- the event is of this id
abbrev pub is_of_id : List ℕ → Event → Bool
is_of_id id e = is_id id e.id

-- and says more of it than that it exists
abbrev pub says_of : List ℕ → Event → Bool
says_of id e = is_of_id id e && not (is_exists e.status)

-- none of the events does
abbrev pub is_unheard : List Event → List ℕ → Bool
is_unheard events id = not (list_any (says_of id) events)

-- the ids that none of the events says more of, in their order
abbrev pub lost_ids : (ids : List (List ℕ)) → List Event → List (List ℕ)
lost_ids ids events = filter (is_unheard events) ids

-- the event of a test that did not come to its end
abbrev pub lost_event : List ℕ → Event
lost_event id = record {
  stamp = None;
  id = Some id;
  tags = None;
  runnable = true;
  status = status.InProgress;
  mime = None;
  file = None;
  eof = false;
  route = None;
}

-- What is recorded of an id that is lost under a lane with this ending: nothing where its child ended with 0, and else
-- that event.
abbrev pub lost_under : (lane : ℕ) → Ending → List ℕ → List Event
lost_under lane (Exit (pos zero)) id = []
lost_under lane (Exit (pos (suc n))) id = under lane (lost_event id) ∷ []
lost_under lane (Exit (negsuc n)) id = under lane (lost_event id) ∷ []
lost_under lane Fault id = under lane (lost_event id) ∷ []
lost_under lane NoMemory id = []

-- the events that are recorded of these ids, which are lost
abbrev pub lost_events : (lane : ℕ) → Ending → (ids : List (List ℕ)) → List Event
lost_events lane how ids = flat_map (lost_under lane how) ids

-- the packet is that of the event of the id
pub record IsLostPacket (lane : ℕ) (id packet : List ℕ) : Type 0 where
  pub packet_is : packet ≡ canonical (under lane (lost_event id))
  pub under : IsPacketOf lane packet

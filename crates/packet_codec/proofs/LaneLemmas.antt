-- Events under a lane: what fits there has a text for its route.
use Rattle.std.proofs.Common.{ℕ, ◌<◌, ◌^◌, List, length, arith}
use Rattle.std.specs.Prelude.{Option, Some, None, IfSome}
use Rattle.std.proofs.lemmas.List.{length-append}
use Rattle.sub_number.specs.Numbers.{shortest_number}
use Rattle.sub_number.specs.Texts.{IsShortText}
use Rattle.packet_codec.specs.declared.event.Event.{Event}
use Rattle.packet_codec.specs.Routing.{route_under, under}
use Rattle.packet_codec.specs.Canonical.{canonical_fields, Fits, IsEvent}
use Rattle.packet_codec.proofs.RoutingLemmas.{route_under_none, route_under_some}
use Rattle.packet_codec.proofs.WritingLemmas.{length_canonical_fields}
use Rattle.packet_codec.proofs.SpellingLemmas.{packet_size_room}

-- a route that is short enough under the lane is a text there
pub route_under_short : (lane : ℕ) (route : Option (List ℕ)) → lane < 64 → IfSome route IsShortText → length (route_under lane route) < 2 ^ 30 → IsShortText (route_under lane route)
route_under_short lane None small text short = route_under_none lane small
route_under_short lane (Some route) small text short = route_under_some lane route small text.text short

-- where the event fits under the lane, it is short enough
pub route_under_fits : (lane : ℕ) (e : Event) → lane < 64 → IfSome e.route IsShortText → Fits (under lane e) → IsShortText (route_under lane e.route)
route_under_fits lane e small text fits =
    route_under_short lane e.route small text
    (omega (arith, fits.size, packet_size_room (length (canonical_fields (under lane e))) fits.size, length_canonical_fields (under lane e), length-append (shortest_number (length (route_under lane e.route))) (route_under lane e.route)))

-- and the event's parts are then what they are to be
pub is_event_under : (lane : ℕ) (e : Event) → lane < 64 → IsEvent e → Fits (under lane e) → IsEvent (under lane e)
is_event_under lane e small is fits = record {
  seconds = is.seconds;
  id = is.id;
  tags = is.tags;
  mime = is.mime;
  file = is.file;
  route = route_under_fits lane e small is.route fits;
}

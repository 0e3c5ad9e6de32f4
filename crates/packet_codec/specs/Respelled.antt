-- The event of a packet that is written again, with a change.
use Rattle.std.specs.Prelude.{◌≡◌, ℕ, ◌<◌, Option, Some, List}
use Rattle.packet_codec.specs.declared.event_change.Change.{Change}
use Rattle.packet_codec.specs.declared.event_change.Change.TheVariants.{Nothing, Lane, Tags}
use Rattle.packet_codec.specs.declared.header.Header.{Header}
use Rattle.packet_codec.specs.declared.parts.Parts.{Parts}
use Rattle.packet_codec.specs.declared.event.Event.{Event}
use Rattle.packet_codec.specs.Flags.{first_flags, second_flags}
use Rattle.packet_codec.specs.Shapes.{ShowsParts, contents_of}
use Rattle.packet_codec.specs.Routing.{route_under}
use Rattle.packet_codec.specs.Retagging.{if_any, lent_bytes}

-- the tags that an event has then which had these
abbrev pub tags_after : Change → Option (List (List ℕ)) → Option (List (List ℕ))
tags_after Nothing own = own
tags_after (Lane lane) own = own
tags_after (Tags tags) own = if_any (lent_bytes tags.now)

-- the route that an event has then which had this one
abbrev pub route_after : Change → Option (List ℕ) → Option (List ℕ)
route_after Nothing own = own
route_after (Lane lane) own = Some (route_under lane own)
route_after (Tags tags) own = own

-- the event with the tags and the route that the change gives it
abbrev pub changed : Change → Event → Event
changed change e = record e { tags = tags_after change e.tags; route = route_after change e.route }

-- a lane that there may be
abbrev pub IsChange : Change → Type 0
IsChange Nothing = Unit {0}
IsChange (Lane lane) = lane < 64
IsChange (Tags tags) = Unit {0}

-- the flag bytes and the fields that were found in a packet are those of the event
pub record AreOf (header : Header) (parts : Parts) (e : Event) : Type 0 where
  pub first : header.first ≡ first_flags e
  pub second : header.second ≡ second_flags e
  pub shown : ShowsParts parts (contents_of e)

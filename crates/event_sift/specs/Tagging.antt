-- The tags that an event gets (docs/FORMATS.md, "subunit-tags").
use Rattle.std.specs.Prelude.{ℕ, Option, None, List, [], ◌++◌, nat_le, if◌then◌else◌}
use Rattle.std.specs.Option.{unwrap_or}
use Rattle.packet_codec.specs.declared.event.Event.{Event}
use Rattle.packet_codec.specs.Canonical.{canonical_size, largest_packet}
use Rattle.packet_codec.specs.Retagging.{if_any, with_tags}
use Rattle.outcome_fold.specs.Order.{in_byte_order, without}
use Rattle.event_sift.specs.declared.tagger.Tagger.{Tagger}

-- the event's tags and the added ones, in the order of their bytes, each once, without the removed ones
abbrev pub tags_with : (add remove : List (List ℕ)) → Option (List (List ℕ)) → List (List ℕ)
tags_with add remove tags = without (in_byte_order (unwrap_or tags [] ++ add)) remove

-- an event that would no longer fit into a packet stays as it is
abbrev pub where_fits : Event → Event → Event
where_fits changed e = if nat_le (canonical_size changed) largest_packet then changed else e

-- the event with the added tags and without the removed ones
abbrev pub tagged_with : (add remove : List (List ℕ)) → Event → Event
tagged_with add remove e = where_fits (with_tags e (if_any (tags_with add remove e.tags))) e

-- the tags that an event gets which has none
abbrev pub plain_tags : Tagger → Option (List (List ℕ))
plain_tags tagger = if_any (tags_with tagger.add tagger.remove None)

-- the event with the tags that the tagger gives it
abbrev pub tagged : Tagger → Event → Event
tagged tagger e = tagged_with tagger.add tagger.remove e

-- An event with other tags.
use Rattle.std.specs.Prelude.{ℕ, Option, None, Some, List, length, map, ◌==◌, if◌then◌else◌}
use Rattle.std.specs.Borrow.{Bor}
use Rattle.packet_codec.specs.declared.event.Event.{Event}

-- no tags, where there are none
abbrev pub if_any : List (List ℕ) → Option (List (List ℕ))
if_any tags = if length tags == 0 then None else Some tags

-- the event with these tags
abbrev pub with_tags : Event → Option (List (List ℕ)) → Event
with_tags e tags = record e { tags = tags }

-- the bytes of each slice that is lent
abbrev pub lent_bytes : List (Bor (List ℕ)) → List (List ℕ)
lent_bytes slices = map (λ bytes. bytes.now) slices

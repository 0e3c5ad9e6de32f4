-- Writing behind what stands there, and how large the parts are.
use Rattle.std.proofs.Common.{◌≡◌, ℕ, ◌+◌, ◌<◌, ◌≤◌, List, [], ◌∷◌, ◌++◌, length, take, get_or, Fits, w8, refl, sym, ◌∙◌, ap, arith}
use Rattle.std.specs.Prelude.{All}
use Rattle.std.specs.List.{flat_map}
use Rattle.std.proofs.lemmas.List.{length-append, length-take, take-take, take_at}
use Rattle.std.proofs.lemmas.List.Elements.{All-from_get_or}
use Rattle.sub_number.specs.Numbers.{shortest_number}
use Rattle.packet_codec.specs.declared.event.Event.{Event}
use Rattle.packet_codec.specs.Routing.{under, route_under}
use Rattle.packet_codec.specs.Canonical.{canonical_optional, canonical_text, canonical_stamp, canonical_tags, canonical_file, canonical_fields}
use Rattle.packet_codec.proofs.ShortestLemmas.{length_shortest_number, shortest_size_range}

-- what begins with all of `middle` begins with what `middle` began with
pub kept_behind : (old middle new more : List ℕ) → middle ≡ old ++ more → take (length middle) new ≡ middle → take (length old) new ≡ old
kept_behind old middle new more grown kept =
    let longer : length old ≤ length middle = omega (arith, ap length grown, length-append old more) in
    sym (take-take (length old) (length middle) new longer) ∙ ap (take (length old)) (kept ∙ grown) ∙ take_at old more (length old) refl

-- what is kept twice is kept
pub kept_twice : (old middle new : List ℕ) → take (length old) middle ≡ old → take (length middle) new ≡ middle → take (length old) new ≡ old
kept_twice old middle new first second =
    let longer : length old ≤ length middle = omega (arith, ap length first, length-take (length old) middle) in
    sym (take-take (length old) (length middle) new longer) ∙ ap (take (length old)) second ∙ first

pub texts_count : (texts : List (List ℕ)) → length texts ≤ length (flat_map canonical_text texts)
texts_count [] = omega arith
texts_count (text ∷ texts) = omega (arith, texts_count texts, length-append (canonical_text text) (flat_map canonical_text texts), length-append (shortest_number (length text)) text, length_shortest_number (length text), shortest_size_range (length text))

-- there are no more tags than bytes
pub tags_count : (tags : List (List ℕ)) → length tags ≤ length (canonical_tags tags)
tags_count tags = omega (arith, texts_count tags, length-append (shortest_number (length tags)) (flat_map canonical_text tags))

-- an event's fields, part by part
pub length_canonical_fields : (e : Event) → length (canonical_fields e) ≡ length (canonical_optional canonical_stamp e.stamp) + (length (canonical_optional canonical_text e.id) + (length (canonical_optional canonical_tags e.tags) + (length (canonical_optional canonical_text e.mime) + (length (canonical_optional canonical_file e.file) + length (canonical_optional canonical_text e.route)))))
unfolding canonical_fields
length_canonical_fields e = simp length-append (omega arith)

-- under a lane only the route's part is another
pub length_fields_under : (lane : ℕ) (e : Event) → length (canonical_fields (under lane e)) + length (canonical_optional canonical_text e.route) ≡ length (canonical_fields e) + length (canonical_text (route_under lane e.route))
length_fields_under lane e = omega (arith, length_canonical_fields e, length_canonical_fields (under lane e))

-- bytes that each fit eight bits
pub all_bytes : (bytes : List ℕ) → ((i : ℕ) → Fits w8 (get_or bytes i 0)) → All (λ byte. byte < 256) bytes
all_bytes bytes are = All-from_get_or (λ byte. byte < 256) bytes 0 (λ i below. omega (arith, are i))

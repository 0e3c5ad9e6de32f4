-- The groups of ids by a pattern (docs/FORMATS.md, "Groups").
use Rattle.std.specs.Prelude.{ℕ, zero, suc, List, take, Option, None, Some, map}
use Rattle.std.specs.List.{filter}
use Rattle.std.specs.Str.{bytes_eq}
use Rattle.std.specs.Ordering.{nat_cmp}
use Rattle.std.specs.Cmp.Lexicographic.{slice_cmp}
use Rattle.partition_times.specs.Order.{in_order}
use Rattle.partition_times.specs.Patterns.{first_match}

-- a match that begins at the first byte and is not empty names the group, and else the id does
abbrev pub named_by : Option (ℕ × ℕ) → List ℕ → List ℕ
named_by (Some (zero, suc end)) id = take (suc end) id
named_by (Some (zero, zero)) id = id
named_by (Some (suc start, end)) id = id
named_by None id = id

-- the name of the id's group; without a pattern each id is a group of its own
abbrev pub group_of : Option (List ℕ) → List ℕ → List ℕ
group_of None id = id
group_of (Some pattern) id = named_by (first_match pattern id) id

-- the ids whose group has this name, in their order
abbrev pub members : (List ℕ → List ℕ) → List (List ℕ) → List ℕ → List (List ℕ)
members name_of ids name = filter (λ id. bytes_eq name (name_of id)) ids

-- the names of the groups of the ids, each once, in the order of their bytes
abbrev pub group_names : (List ℕ → List ℕ) → List (List ℕ) → List (List ℕ)
group_names name_of ids = in_order (slice_cmp nat_cmp) (map name_of ids)

-- What stands between ids and shares while the groups are gathered.
use Rattle.std.specs.Prelude.{◌≡◌, ⊤, ℕ, List, [], Bool, Option, None, Some, is_some, Vec}
use Rattle.std.specs.List.{list_any}
use Rattle.std.specs.Option.{option_map_or}
use Rattle.std.specs.Str.{bytes_eq}
use Rattle.std.specs.Ordering.{nat_cmp}
use Rattle.std.specs.Cmp.Lexicographic.{slice_cmp}
use Rattle.std.specs.BTreeMap.{BTreeMap, get_by}
use Rattle.std.specs.declared.alloc.Global.{Global}
use Rattle.std.specs.Borrow.{Bor}
use Rattle.regex.specs.Patterns.{Re}
use Rattle.partition_times.specs.Compiled.{FindsSame}
use Rattle.partition_times.specs.Names.{members}

-- what searches for a pattern, if there is one
abbrev pub SearchesFor : Option (List ℕ) → Option Re → Type 0
SearchesFor None None = ⊤
SearchesFor None (Some re) = ⊥
SearchesFor (Some pattern) None = ⊥
SearchesFor (Some pattern) (Some re) = FindsSame pattern re

-- by name, the ids of each group
abbrev pub IdsByName : Type 0
IdsByName = BTreeMap (Bor (List ℕ)) (Vec (List ℕ) Global)

-- the ids under a name, and whether there are any
abbrev pub ids_under : IdsByName → List ℕ → List (List ℕ)
ids_under lists name = option_map_or (λ list. list.items) (get_by (λ key. slice_cmp nat_cmp name key.now) lists) []

-- a group of this name is among the lists
abbrev pub has_group : IdsByName → List ℕ → Bool
has_group lists name = is_some (get_by (λ key. slice_cmp nat_cmp name key.now) lists)

-- each group that has an id stands under its name
pub record AreGathered (name_of : List ℕ → List ℕ) (ids : List (List ℕ)) (lists : IdsByName) : Type 0 where
  pub ids_of : (name : List ℕ) → ids_under lists name ≡ members name_of ids name
  pub names : (name : List ℕ) → has_group lists name ≡ list_any (λ id. bytes_eq name (name_of id)) ids

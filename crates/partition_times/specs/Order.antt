-- A list in an order, each element once.
use Rattle.std.specs.Prelude.{List, map}
use Rattle.std.specs.declared.cmp.Ordering.{Ordering}
use Rattle.std.specs.FinMap as fin

-- each of the keys once, in the order R: the keys of the finite map that has them
abbrev pub in_order : {K : Type 0} → (K → K → Ordering) → List K → List K
in_order R keys = fin.keys (fin.from_entries {R = R} (map (λ key. (key, tt {0})) keys))

-- The orders that docs/FORMATS.md, "The fold", speaks of, and tables whose keys are in order.
use Rattle.std.specs.Prelude.{ℕ, Bool, not, Option, List, [], ◌∷◌}
use Rattle.std.specs.FinMap as map
use Rattle.std.specs.List.{filter, list_any}
use Rattle.std.specs.Ordering.{nat_cmp, ordering_then, eq_by_cmp}
use Rattle.std.specs.Option.{option_cmp}
use Rattle.std.specs.Cmp.Lexicographic.{slice_cmp}
use Rattle.std.specs.declared.cmp.Ordering.{Ordering}
use Rattle.outcome_fold.specs.declared.test_key.TestKey.{TestKey}

-- in the order of their bytes
abbrev pub text_cmp : List ℕ → List ℕ → Ordering
text_cmp = slice_cmp nat_cmp

-- no route first
abbrev pub route_cmp : Option (List ℕ) → Option (List ℕ) → Ordering
route_cmp = option_cmp text_cmp

-- by route, and then by id
abbrev pub test_cmp : TestKey → TestKey → Ordering
test_cmp s t = ordering_then (route_cmp s.route t.route) (text_cmp s.id t.id)

-- each of the keys with its value, the keys in order and each once
abbrev pub table : {K V : Type 0} {R : K → K → Ordering} → (K → V) → List K → map.FinMap R V
table value [] = map.empty
table value (k ∷ ks) = map.insert (table value ks) k (value k)

-- a table with nothing at each of the texts
abbrev pub text_table : List (List ℕ) → map.FinMap text_cmp (Unit {0})
text_table texts = table {V = Unit {0}} {R = text_cmp} (λ text. tt) texts

-- the texts in the order of their bytes, each once
abbrev pub in_byte_order : List (List ℕ) → List (List ℕ)
in_byte_order texts = map.keys (text_table texts)

-- the text is one of these
abbrev pub among : List (List ℕ) → List ℕ → Bool
among texts text = list_any (eq_by_cmp text_cmp text) texts

-- the texts that are not among the others
abbrev pub without : List (List ℕ) → List (List ℕ) → List (List ℕ)
without texts others = filter (λ text. not (among others text)) texts

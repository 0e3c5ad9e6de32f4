-- The rows of the tests that are open at the end.
use Rattle.std.proofs.Common.{◌≡◌, List, [], ◌∷◌, map, None, refl, sym, ◌∙◌, ap}
use Rattle.std.specs.FinMap as fin
use Rattle.std.specs.FinMap.{IsAntisymmetric, put, entries-insert, len-entries, len-empty}
use Rattle.std.specs.FinMap.Entries.{by_order}
use Rattle.std.specs.Cmp.{IsTotalOrder}
use Rattle.std.specs.declared.cmp.Ordering.{Ordering}
use Rattle.std.specs.declared.cmp.Ordering.TheVariants.{Less, Equal, Greater}
use Rattle.std.specs.List.Sorted.{IsStrictlySortedBy}
use Rattle.packet_codec.specs.declared.event.Event.{Event}
use Rattle.outcome_fold.specs.declared.row.Ended.TheVariants as how
use Rattle.outcome_fold.specs.declared.row.Row.{Row}
use Rattle.outcome_fold.specs.declared.test_key.TestKey.{TestKey}
use Rattle.outcome_fold.specs.declared.part.Started.{Started}
use Rattle.outcome_fold.specs.Order.{test_cmp, table}
use Rattle.outcome_fold.specs.Rows.{open_rows, open_tests}
use Rattle.outcome_fold.specs.Started.{started_of, open_table}
use Rattle.outcome_fold.specs.Folded.{row_at}
use Rattle.outcome_fold.specs.declared.part.EndedPart.{EndedPart}
use Rattle.outcome_fold.specs.EndedParts.{part_of_open, open_parts}
use Rattle.outcome_fold.proofs.OrderLemmas.{tests_total, exact_tests}
use Rattle.outcome_fold.proofs.TableLemmas.{none_of_length, entries_in_order}
use Rattle.outcome_fold.proofs.FoldLemmas.{part_of_test}

module _ {K V W : Type 0} {R : K → K → Ordering} (same : IsAntisymmetric R) (h : K → V → W) where
  abbrev with_values : List (K × V) → List (K × W)
  with_values es = map (λ e. (e.0, h e.0 e.1)) es

  put_at : (k : K) (v : V) (e : K × V) (es : List (K × V)) (r : Ordering) → R k e.0 ≡ r → put R k (h k v) (with_values es) ≡ with_values (put R k v es)
      → by_order r ((k, h k v) ∷ with_values (e ∷ es)) ((e.0, h k v) ∷ with_values es) ((e.0, h e.0 e.1) ∷ put R k (h k v) (with_values es)) ≡ with_values (by_order r ((k, v) ∷ e ∷ es) ((e.0, v) ∷ es) (e ∷ put R k v es))
  put_at k v e es Less is rest = refl
  put_at k v e es Equal is rest = ap (λ x. (e.0, h x v) ∷ with_values es) (same k e.0 is)
  put_at k v e es Greater is rest = ap (λ l. (e.0, h e.0 e.1) ∷ l) rest

  put_with : (k : K) (v : V) (es : List (K × V)) → put R k (h k v) (with_values es) ≡ with_values (put R k v es)
  put_with k v [] = refl
  put_with k v (e ∷ es) = put_at k v e es (R k e.0) refl (put_with k v es)

  no_entries : with_values (fin.entries (fin.empty {X = V} {R = R})) ≡ []
  no_entries = ap with_values (none_of_length (fin.entries (fin.empty {X = V} {R = R})) (sym (len-entries (fin.empty {X = V} {R = R})) ∙ len-empty R V))

  -- a table whose values are made of those of another
  pub table_with : (o : IsTotalOrder R) (f : K → V) (ks : List K) → fin.entries (table {R = R} (λ k. h k (f k)) ks) ≡ with_values (fin.entries (table {R = R} f ks))
  table_with o f [] = none_of_length (fin.entries (fin.empty {X = W} {R = R})) (sym (len-entries (fin.empty {X = W} {R = R})) ∙ len-empty R W) ∙ sym no_entries
  table_with o f (k ∷ ks) =
      entries-insert o (table (λ k. h k (f k)) ks) k (h k (f k)) ∙ ap (put R k (h k (f k))) (table_with o f ks) ∙ put_with k (f k) (fin.entries (table f ks))
      ∙ ap with_values (sym (entries-insert o (table f ks) k (f k)))

map_map : {A B C : Type 0} (g : B → C) (f : A → B) (xs : List A) → map g (map f xs) ≡ map (λ x. g (f x)) xs
map_map g f [] = refl
map_map g f (x ∷ xs) = ap (λ l. g (f x) ∷ l) (map_map g f xs)

-- the entries that are kept at the end, in order, give what is made of each open test and what its part says
values_at_end : {W : Type 0} (h : TestKey → Started → W) (seen : List Event) (es : List (TestKey × Started)) → IsStrictlySortedBy test_cmp (map (λ e. e.0) es) → fin.from_entries {R = test_cmp} es ≡ open_table seen → map (λ (e : TestKey × Started). h e.0 e.1) es ≡ fin.values (table {R = test_cmp} (λ test. h test (started_of (part_of_test seen test))) (open_tests seen))
values_at_end h seen es ordered is =
    ap (map (λ (e : TestKey × Started). h e.0 e.1)) (sym (entries_in_order tests_total es ordered) ∙ ap fin.entries is)
    ∙ sym (ap (map (λ e. e.1)) (table_with exact_tests h tests_total (λ test. started_of (part_of_test seen test)) (open_tests seen))
    ∙ map_map (λ e. e.1) (λ (e : TestKey × Started). (e.0, h e.0 e.1)) (fin.entries (open_table seen)))

abbrev pub row_of_open : TestKey × Started → Row
row_of_open e = row_at e.0 how.Open None e.1

-- their rows
pub rows_at_end : (seen : List Event) (es : List (TestKey × Started)) → IsStrictlySortedBy test_cmp (map (λ e. e.0) es) → fin.from_entries {R = test_cmp} es ≡ open_table seen → map row_of_open es ≡ open_rows seen
rows_at_end seen es ordered is = values_at_end (λ test s. row_at test how.Open None s) seen es ordered is

abbrev pub part_of_entry : TestKey × Started → EndedPart
part_of_entry e = part_of_open e.0 e.1

-- their parts
pub parts_at_end : (seen : List Event) (es : List (TestKey × Started)) → IsStrictlySortedBy test_cmp (map (λ e. e.0) es) → fin.from_entries {R = test_cmp} es ≡ open_table seen → map part_of_entry es ≡ open_parts seen
parts_at_end seen es ordered is = values_at_end part_of_open seen es ordered is

-- The names of files, one after another.
use Rattle.std.proofs.Common.{◌≡◌, inl, inr, ℕ, ◌+◌, ◌<◌, true, false, cond, IsSome, List, length, get_or, take, string_bytes, refl, sym, ap, ◌∙◌, subst}
use Rattle.std.specs.Prelude.{Contains}
use Rattle.std.specs.Str.{bytes_eq}
use Rattle.std.specs.Ordering.{nat_cmp}
use Rattle.std.specs.Cmp.Lexicographic.{slice_cmp}
use Rattle.std.specs.BTreeMap.{is_at}
use Rattle.std.specs.BTreeSet.{BTreeSet, contains}
use Rattle.std.proofs.lemmas.Bool.{cases_Bool, cond-true, cond-false}
use Rattle.std.proofs.lemmas.Cmp.{nat_list_cmp_total}
use Rattle.std.proofs.lemmas.Map.Lookups.{exact_bytes}
use Rattle.std.proofs.lemmas.Map.Text.{is_eq-slice_cmp}
use Rattle.std.proofs.lemmas.Map.Views.{btree_set_contains_iff}
use Rattle.std.proofs.lemmas.Slice.Eq.{bytes_eq-Decides}
use Rattle.sub_number.specs.Texts.{IsShortText}
use Rattle.edge_io.specs.declared.published_files.File.{File}
use Rattle.edge_io.specs.Disk.{Files}
use Rattle.edge_io.specs.Kept.{lookup}
use Rattle.edge_io.specs.Names.{AreNamesOf, HasNamesOf, ListsInOrder}
use Rattle.edge_io.proofs.KeptLemmas.{found_here, found_before}

eq_sides : (a b : List ℕ) → bytes_eq a b ≡ bytes_eq b a
eq_sides a b = elim (cases_Bool (bytes_eq a b)) [
  | inl hits ↦ hits ∙ sym ((bytes_eq-Decides b a).1 (sym ((bytes_eq-Decides a b).0 hits)))
  | inr misses ↦ elim (cases_Bool (bytes_eq b a)) [
    | inl hits ↦ (bytes_eq-Decides a b).1 (sym ((bytes_eq-Decides b a).0 hits)) ∙ sym hits
    | inr also ↦ misses ∙ sym also
  ]
]

module _ (files : List File) (i : ℕ) (file : File) (here : file ≡ get_or files i file) (within : i < length files) (found : BTreeSet (List ℕ)) (is : HasNamesOf (lookup (take i files)) found) where
  -- the name of one file more
  module _ (later : BTreeSet (List ℕ)) (key bytes : List ℕ) (key_is : key ≡ bytes) (bytes_is : bytes ≡ string_bytes file.name) (short : IsShortText bytes) (updates : (q : List ℕ) → contains (slice_cmp nat_cmp) later q ≡ cond (is_at (slice_cmp nat_cmp key) q) true (contains (slice_cmp nat_cmp) found q)) where
    text : IsShortText (string_bytes file.name)
    text = subst IsShortText bytes_is short

    at_name : (q : List ℕ) → is_at (slice_cmp nat_cmp key) q ≡ bytes_eq q (string_bytes file.name)
    at_name q = is_eq-slice_cmp key q ∙ ap (λ (k : List ℕ). bytes_eq k q) (key_is ∙ bytes_is) ∙ eq_sides (string_bytes file.name) q

    hit : (q : List ℕ) → bytes_eq q (string_bytes file.name) ≡ true → contains (slice_cmp nat_cmp) later q ≡ true
    hit q hits = updates q ∙ cond-true _ _ _ (at_name q ∙ hits)

    miss : (q : List ℕ) → bytes_eq q (string_bytes file.name) ≡ false → contains (slice_cmp nat_cmp) later q ≡ contains (slice_cmp nat_cmp) found q
    miss q misses = updates q ∙ cond-false _ _ _ (at_name q ∙ misses)

    pub names_more : HasNamesOf (lookup (take (i + 1) files)) later
    names_more q = elim (cases_Bool (bytes_eq q (string_bytes file.name))) [
      | inl hits ↦
          let name : q ≡ string_bytes file.name = (bytes_eq-Decides q (string_bytes file.name)).0 hits in
          ((λ in'. (subst IsShortText (sym name) text, subst IsSome (found_here files i file here within q hits) refl)), (λ both. hit q hits))
      | inr misses ↦ (
        (λ in'. let old = (is q).0 (sym (miss q misses) ∙ in') in (old.0, subst IsSome (found_before files i file here within q misses) old.1)),
        (λ both. miss q misses ∙ (is q).1 (both.0, subst IsSome (sym (found_before files i file here within q misses)) both.1)),
      )
    ]

  -- one file more whose name is no text
  pub names_same : (bytes : List ℕ) → bytes ≡ string_bytes file.name → (IsShortText bytes → ⊥) → HasNamesOf (lookup (take (i + 1) files)) found
  names_same bytes bytes_is none q = elim (cases_Bool (bytes_eq q (string_bytes file.name))) [
    | inl hits ↦
        let not : IsShortText q → ⊥ = λ text. none (subst IsShortText ((bytes_eq-Decides q (string_bytes file.name)).0 hits ∙ sym bytes_is) text) in
        ((λ in'. absurd (not ((is q).0 in').0)), (λ both. absurd (not both.0)))
    | inr misses ↦ (
      (λ in'. let old = (is q).0 in' in (old.0, subst IsSome (found_before files i file here within q misses) old.1)),
      (λ both. (is q).1 (both.0, subst IsSome (sym (found_before files i file here within q misses)) both.1)),
    )
  ]

-- the keys of the set, as a list
pub listed_names : (files : Files) (found : BTreeSet (List ℕ)) (names : List (List ℕ)) → HasNamesOf files found → ListsInOrder found names → AreNamesOf files names
listed_names files found names has list = record {
  ordered = list.ordered;
  each = λ q.
      let by = btree_set_contains_iff nat_list_cmp_total exact_bytes found q in
      ((λ in'. (has q).0 (by.1 (subst (λ (l : List (List ℕ)). Contains l q) list.is in'))), (λ both. subst (λ (l : List (List ℕ)). Contains l q) (sym list.is) (by.0 ((has q).1 both))));
}

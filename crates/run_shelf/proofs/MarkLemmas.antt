-- The marks of names, one after another.
use Rattle.std.proofs.Common.{◌≡◌, inl, inr, ℕ, zero, suc, ◌+◌, ◌-◌, ◌<◌, ◌≤◌, ltb, if◌then◌else◌, Bool, true, false, true≢false, Option, Some, None, IsSome, List, [], ◌∷◌, ◌++◌, length, get_or, take, map, refl, sym, ap, ◌∙◌, subst, arith}
use Rattle.std.specs.Prelude.{Contains, slice_get}
use Rattle.std.proofs.lemmas.Bool.{cond-true, cond-false, cases_eq, eq-eqb, ne_eqb, ltb-true, ltb-false, lt-ltb}
use Rattle.std.proofs.lemmas.List.{get_or-take, take_all}
use Rattle.std.proofs.lemmas.List.Elements.{Contains-append_left, Contains-push, Contains-push_cases}
use Rattle.run_shelf.specs.declared.faults.OpenFault.TheVariants.{BadBase, Gap}
use Rattle.run_shelf.specs.Marks.{IsKindOf, IsKindIn, HasRunIn, NamesTellKinds, LacksOldName, NamesFail, missing_run, mark_at, AreMarksOf, joined_kind, MarksRun}
use Rattle.run_shelf.specs.Names.{SpellsRun, CountsRun, CountsNoRun}
use Rattle.run_shelf.specs.Repository.{full_name, partial_name, run_name, most_runs}
use Rattle.run_shelf.proofs.NameLemmas.{partial_differs, full_same, partial_same}
use Rattle.run_shelf.proofs.RunLemmas.{past_items}

not_in_nothing : (x : List ℕ) → Contains [] x → ⊥
not_in_nothing x here = omega (arith, here.1)

none_in_nothing : (below : Bool) (full partial : List ℕ) → IsKindOf [] below full partial None
none_in_nothing true full partial = not_in_nothing partial
none_in_nothing false full partial = (not_in_nothing full, not_in_nothing partial)

pub no_marks : (names : List (List ℕ)) (old : ℕ) (marks : List (Option Bool)) → names ≡ [] → marks ≡ [] → AreMarksOf names old marks
no_marks names old marks no_names none = record {
  few = omega (arith, ap length none);
  each = λ number few.
      subst (λ (l : List (List ℕ)). IsKindIn l old number (mark_at marks number)) (sym no_names)
      (subst (λ (o : Option Bool). IsKindIn [] old number o) (sym (ap (λ (l : List (Option Bool)). mark_at l number) none)) (none_in_nothing (ltb number old) (full_name number) (partial_name number)));
  last = λ number is. absurd (omega (arith, is, ap length none));
}

module _ (names : List (List ℕ)) (name : List ℕ) where
  abbrev more : List (List ℕ)
  more = names ++ name ∷ []

  still_none : (x : List ℕ) → (name ≡ x → ⊥) → (Contains names x → ⊥) → Contains more x → ⊥
  still_none x differs none here = elim (Contains-push_cases names name x here) [
    | inl old ↦ none old
    | inr new ↦ differs new
  ]

  -- a name of another number, or of no run that counts, changes nothing
  not_added : (below : Bool) (full partial : List ℕ) (o : Option Bool) → (below ≡ false → name ≡ full → ⊥) → (name ≡ partial → ⊥) → IsKindOf names below full partial o → IsKindOf more below full partial o
  not_added true full partial None no_full no_partial is = still_none partial no_partial is
  not_added true full partial (Some false) no_full no_partial is = absurd is
  not_added true full partial (Some true) no_full no_partial is = Contains-append_left names (name ∷ []) partial is
  not_added false full partial None no_full no_partial is = (still_none full (no_full refl) is.0, still_none partial no_partial is.1)
  not_added false full partial (Some false) no_full no_partial is = Contains-append_left names (name ∷ []) full is
  not_added false full partial (Some true) no_full no_partial is = (still_none full (no_full refl) is.0, Contains-append_left names (name ∷ []) partial is.1)

  here_now : (x : List ℕ) → name ≡ x → Contains more x
  here_now x same = subst (λ (l : List ℕ). Contains more l) same (Contains-push names name)

  not_partial : (partial : Bool) → (true ≡ true → partial ≡ true) → partial ≡ false → ⊥
  not_partial partial counts is = true≢false (sym (counts refl) ∙ is)

  added : (below : Bool) (number : ℕ) (o : Option Bool) (partial : Bool) → number < most_runs → (below ≡ true → partial ≡ true) → name ≡ run_name number partial → IsKindOf names below (full_name number) (partial_name number) o
      → IsKindOf more below (full_name number) (partial_name number) (Some (joined_kind o partial))
  added true number o false few counts same is = absurd (not_partial false counts refl)
  added true number None true few counts same is = here_now (partial_name number) same
  added true number (Some false) true few counts same is = absurd is
  added true number (Some true) true few counts same is = here_now (partial_name number) same
  added false number None false few counts same is = here_now (full_name number) same
  added false number None true few counts same is = (still_none (full_name number) (λ e. partial_differs number number (omega arith) (sym same ∙ e)) is.0, here_now (partial_name number) same)
  added false number (Some false) false few counts same is = here_now (full_name number) same
  added false number (Some false) true few counts same is = Contains-append_left names (name ∷ []) (full_name number) is
  added false number (Some true) false few counts same is = here_now (full_name number) same
  added false number (Some true) true few counts same is = (still_none (full_name number) (λ e. partial_differs number number (omega arith) (sym same ∙ e)) is.0, here_now (partial_name number) same)

  name_differs_full : (number other : ℕ) (partial : Bool) → number < most_runs → other < most_runs → (other ≡ number → ⊥) → name ≡ run_name number partial → name ≡ full_name other → ⊥
  name_differs_full number other false few other_few differs is same = differs (full_same other number (omega arith) (omega arith) (sym same ∙ is))
  name_differs_full number other true few other_few differs is same = partial_differs number other (omega arith) (sym is ∙ same)

  name_differs_partial : (number other : ℕ) (partial : Bool) → number < most_runs → other < most_runs → (other ≡ number → ⊥) → name ≡ run_name number partial → name ≡ partial_name other → ⊥
  name_differs_partial number other false few other_few differs is same = partial_differs other number (omega arith) (sym same ∙ is)
  name_differs_partial number other true few other_few differs is same = differs (partial_same other number (omega arith) (omega arith) (sym same ∙ is))

  module _ (old : ℕ) (marks : List (Option Bool)) (are : AreMarksOf names old marks) where
    pub marks_same : CountsNoRun old name → AreMarksOf more old marks
    marks_same none = record {
      few = are.few;
      each = λ number few.
          not_added (ltb number old) (full_name number) (partial_name number) (mark_at marks number)
          (λ new e. none number false (record { spells = record { few = few; is = e }; counts = λ less. absurd (omega (arith, less, ltb-false number old new)) }))
          (λ e. none number true (record { spells = record { few = few; is = e }; counts = λ less. refl })) (are.each number few);
      last = are.last;
    }

    module _ (number : ℕ) (partial : Bool) (counts : CountsRun old name number partial) (later : List (Option Bool)) (adds : MarksRun number partial marks later) where
      abbrev spells : SpellsRun name number partial
      spells = counts.spells

      at_number : (other : ℕ) → other ≡ number → mark_at later other ≡ Some (joined_kind (mark_at marks number) partial)
      at_number other same = adds.each other ∙ cond-true _ _ _ (eq-eqb other number same)

      at_other : (other : ℕ) → (other ≡ number → ⊥) → mark_at later other ≡ mark_at marks other
      at_other other differs = adds.each other ∙ cond-false _ _ _ (ne_eqb other number differs)

      each_more : (other : ℕ) → other < most_runs → IsKindIn more old other (mark_at later other)
      each_more other few = elim (cases_eq other number) [
        | inl same ↦
            subst (λ (o : Option Bool). IsKindIn more old other o) (sym (at_number other same))
            (subst (λ (n : ℕ). IsKindIn more old n (Some (joined_kind (mark_at marks number) partial))) (sym same)
            (added (ltb number old) number (mark_at marks number) partial spells.few (λ below. counts.counts (ltb-true number old below)) spells.is (are.each number spells.few)))
        | inr differs ↦
            subst (λ (o : Option Bool). IsKindIn more old other o) (sym (at_other other differs))
            (not_added (ltb other old) (full_name other) (partial_name other) (mark_at marks other) (λ new. name_differs_full number other partial spells.few few differs spells.is)
            (name_differs_partial number other partial spells.few few differs spells.is) (are.each other few))
      ]

      last_more : (other : ℕ) → other + 1 ≡ length later → IsSome (mark_at later other)
      last_more other is = elim (cases_eq other number) [
        | inl same ↦ subst IsSome (sym (at_number other same)) refl
        | inr differs ↦ elim (adds.last other is) [
          | inl same ↦ absurd (differs same)
          | inr old ↦ subst IsSome (sym (at_other other differs)) (are.last other old)
        ]
      ]

      pub marks_more : AreMarksOf more old later
      marks_more = record { few = adds.few are.few; each = each_more; last = last_more }

-- the kinds up to a place, as marks
kind_is : (kinds : List Bool) (k : ℕ) → get_or (map Some kinds) k None ≡ slice_get kinds k
kind_is [] k = refl
kind_is (kind ∷ kinds) zero = refl
kind_is (kind ∷ kinds) (suc k) = kind_is kinds k

some_kind : (names : List (List ℕ)) (old number : ℕ) (o : Option Bool) → IsSome o → IsKindIn names old number o → HasRunIn names old number
some_kind names old number None some is = cc
some_kind names old number (Some kind) some is = (kind, is)

kind_there : (kinds : List Bool) (k : ℕ) → k < length kinds → IsSome (slice_get kinds k)
kind_there [] k less = absurd (omega arith)
kind_there (kind ∷ kinds) zero less = refl
kind_there (kind ∷ kinds) (suc k) less = kind_there kinds k (omega arith)

none_not_some : (o : Option Bool) → o ≡ None → IsSome o → ⊥
none_not_some None none some = cc
none_not_some (Some kind) none some = cc

lacks_partial : (names : List (List ℕ)) (below : Bool) (full partial : List ℕ) → below ≡ true → IsKindOf names below full partial None → Contains names partial → ⊥
lacks_partial names true full partial is none = none
lacks_partial names false full partial is none = absurd (true≢false (sym is))

module _ (names : List (List ℕ)) (old : ℕ) (marks : List (Option Bool)) (are : AreMarksOf names old marks) (kinds : List Bool) (i : ℕ) (front : map Some kinds ≡ take i marks) (count : length kinds ≡ i) where
  mark_is : (k : ℕ) → k < i → mark_at marks k ≡ slice_get kinds k
  mark_is k less = sym (get_or-take i marks k None less) ∙ sym (ap (λ (l : List (Option Bool)). mark_at l k) front) ∙ kind_is kinds k

  before : i ≤ most_runs → (k : ℕ) → k < i → HasRunIn names old k
  before few k less = some_kind names old k (mark_at marks k) (subst IsSome (sym (mark_is k less)) (kind_there kinds k (omega (arith, count)))) (are.each k (omega arith))

  -- an old run is missing
  lacks_old : (number : ℕ) → number < most_runs → number < old → IsKindIn names old number None → LacksOldName names old
  lacks_old number few less none = record {
    number = number;
    less = less;
    none = lacks_partial names (ltb number old) (full_name number) (partial_name number) (lt-ltb number old less) none;
  }

  -- no mark at this place, before the end
  pub have_gap : i < length marks → mark_at marks i ≡ None → NamesFail names old (missing_run (length kinds) old)
  have_gap within none = subst (λ (n : ℕ). NamesFail names old (missing_run n old)) (sym count) (by (ltb i old) refl)
    where
      few : i < most_runs
      few = omega (arith, are.few, within)

      end : ℕ
      end = length marks - 1

      ends : end + 1 ≡ length marks
      ends = omega (arith, within)

      last : IsSome (mark_at marks end)
      last = are.last end ends

      behind : i < end
      behind = elim (cases_eq i end) [
        | inl same ↦ absurd (none_not_some (mark_at marks end) (ap (mark_at marks) (sym same) ∙ none) last)
        | inr differs ↦ omega (arith, differs, ends, within)
      ]

      free : IsKindIn names old i None
      free = subst (λ (o : Option Bool). IsKindIn names old i o) none (are.each i few)

      by : (b : Bool) → ltb i old ≡ b → NamesFail names old (if b then BadBase else Gap i)
      by true is = lacks_old i few (ltb-true i old is) free
      by false is = record {
        few = few;
        free = free;
        before = before (omega (arith, few));
        other = end;
        behind = behind;
        other_few = omega (arith, are.few, ends);
        other_run = some_kind names old end (mark_at marks end) last (are.each end (omega (arith, are.few, ends)));
        enough = ltb-false i old is;
      }

  -- each number up to the end has a mark
  module _ (end : length marks ≤ i) where
    all_marks : (k : ℕ) → mark_at marks k ≡ slice_get kinds k
    all_marks k = sym (ap (λ (l : List (Option Bool)). mark_at l k) (front ∙ take_all i marks end)) ∙ kind_is kinds k

    each_kind : (k : ℕ) → k < most_runs → IsKindIn names old k (slice_get kinds k)
    each_kind k few = subst (λ (o : Option Bool). IsKindIn names old k o) (all_marks k) (are.each k few)

    pub have_kinds : i ≤ length marks → old ≤ length kinds → NamesTellKinds names old kinds
    have_kinds within enough = record { few = omega (arith, are.few, count, within); each = each_kind; enough = enough }

    -- and they are too few
    pub too_few : length kinds < old → old ≤ most_runs → LacksOldName names old
    too_few less few =
        lacks_old (length kinds) (omega (arith, less, few)) less
        (subst (λ (o : Option Bool). IsKindIn names old (length kinds) o) (past_items kinds (length kinds) (omega arith)) (each_kind (length kinds) (omega (arith, less, few))))

-- The list of runs that files show.
use Rattle.std.proofs.Common.{◌≡◌, inl, inr, ℕ, zero, suc, ◌<◌, ◌≤◌, Bool, Option, Some, None, IsSome, List, [], ◌∷◌, ◌++◌, length, length-append, map, refl, sym, ap, ◌∙◌, subst, arith}
use Rattle.std.specs.Prelude.{slice_get}
use Rattle.std.specs.Option.{option_map}
use Rattle.std.proofs.lemmas.Bool.{cases_eq, cases_lt}
use Rattle.edge_io.specs.Disk.{Files}
use Rattle.run_shelf.specs.Repository.{Run, run_at, most_runs, Shows, HasKinds, IsRepository}
use Rattle.run_shelf.proofs.RunLemmas.{last_item, other_item, past_items, none_is_not_some}

-- lists of which each place has the same
some_item : {X : Type 0} (a b : X) → Some a ≡ Some b → a ≡ b
some_item a b e = cc

same_items : {X : Type 0} (xs ys : List X) → ((k : ℕ) → slice_get ys k ≡ slice_get xs k) → ys ≡ xs
same_items [] [] same = refl
same_items [] (y ∷ ys) same = absurd (none_is_not_some (Some y) (same 0) refl)
same_items (x ∷ xs) [] same = absurd (none_is_not_some (Some x) (sym (same 0)) refl)
same_items (x ∷ xs) (y ∷ ys) same =
    let first : y ≡ x = some_item y x (same 0) in
    let rest : ys ≡ xs = same_items xs ys (λ k. same (suc k)) in
    (λ i. first i ∷ rest i)

-- the runs of the first numbers
record ShowsFirst (files : Files) (n : ℕ) (runs : List Run) : Type 0 where
  few : length runs ≤ n
  each : (k : ℕ) → k < n → run_at files k ≡ slice_get runs k

module _ (files : Files) (repository : IsRepository files) where
  full_so_far : (n : ℕ) (runs : List Run) → n < most_runs → IsSome (run_at files n) → ShowsFirst files n runs → length runs ≡ n
  full_so_far n runs room some first = elim (cases_lt (length runs) n) [
    | inl less ↦
        absurd (none_is_not_some (run_at files (length runs)) (first.each (length runs) less ∙ past_items runs (length runs) (omega arith)) (repository.no_gap (length runs) n less room some))
    | inr most ↦ omega (arith, first.few)
  ]

  next : (n : ℕ) (runs : List Run) → n < most_runs → ShowsFirst files n runs → (o : Option Run) → run_at files n ≡ o → (more : List Run) × ShowsFirst files (suc n) more
  next n runs room first None is = (
    runs,
    record {
      few = omega (arith, first.few);
      each = λ k less. elim (cases_eq k n) [
        | inl same ↦ ap (run_at files) same ∙ is ∙ sym (ap (slice_get runs) same ∙ past_items runs n first.few)
        | inr differs ↦ first.each k (omega (arith, differs))
      ];
    },
  )
  next n runs room first (Some run) is =
      let count : length runs ≡ n = full_so_far n runs room (subst IsSome (sym is) refl) first in (
        runs ++ run ∷ [],
        record {
          few = omega (arith, count, length-append runs (run ∷ []));
          each = λ k less. elim (cases_eq k n) [
            | inl same ↦ ap (run_at files) same ∙ is ∙ sym (ap (slice_get (runs ++ run ∷ [])) (same ∙ sym count) ∙ last_item runs run)
            | inr differs ↦ first.each k (omega (arith, differs)) ∙ sym (other_item runs run k (λ e. differs (e ∙ count)))
          ];
        },
      )

  first_runs : (n : ℕ) → n ≤ most_runs → (runs : List Run) × ShowsFirst files n runs
  first_runs zero few = ([], record { few = omega arith; each = λ k less. absurd (omega arith) })
  first_runs (suc n) few =
      let before = first_runs n (omega arith) in
      next n before.0 (omega arith) before.1 (run_at files n) refl

  pub shown : (runs : List Run) × Shows files runs
  shown =
      let all = first_runs most_runs (omega arith) in
      (all.0, record { few = all.1.few; each = all.1.each })

pub one_list : (files : Files) (runs others : List Run) → Shows files runs → Shows files others → others ≡ runs
one_list files runs others shows also = same_items runs others same
  where
    same : (k : ℕ) → slice_get others k ≡ slice_get runs k
    same k = elim (cases_lt k most_runs) [
      | inl few ↦ sym (also.each k few) ∙ shows.each k few
      | inr past ↦ past_items others k (omega (arith, also.few)) ∙ sym (past_items runs k (omega (arith, shows.few)))
    ]

kind_of_item : (runs : List Run) (k : ℕ) → slice_get (map (λ run. run.partial) runs) k ≡ option_map (λ run. run.partial) (slice_get runs k)
kind_of_item [] k = refl
kind_of_item (run ∷ runs) zero = refl
kind_of_item (run ∷ runs) (suc k) = kind_of_item runs k

pub kinds_of_runs : (files : Files) (runs : List Run) (kinds : List Bool) → Shows files runs → HasKinds files kinds → kinds ≡ map (λ run. run.partial) runs
kinds_of_runs files runs kinds shows has = same_items (map (λ (run : Run). run.partial) runs) kinds same
  where
    same : (k : ℕ) → slice_get kinds k ≡ slice_get (map (λ (run : Run). run.partial) runs) k
    same k = elim (cases_lt k most_runs) [
      | inl few ↦ sym (has.each k few) ∙ ap (option_map (λ (run : Run). run.partial)) (shows.each k few) ∙ sym (kind_of_item runs k)
      | inr past ↦ past_items kinds k (omega (arith, has.few)) ∙ sym (kind_of_item runs k ∙ ap (option_map (λ (run : Run). run.partial)) (past_items runs k (omega (arith, shows.few))))
    ]

-- One run more.
use Rattle.std.proofs.Common.{◌≡◌, ◌⊎◌, inl, inr, ℕ, zero, suc, ◌<◌, ◌≤◌, Some, None, IsSome, Option, List, [], ◌∷◌, ◌++◌, length, Bool, true, false, true≢false, refl, sym, ap, ◌∙◌, subst, ltb, if◌then◌else◌, arith, length-append}
use Rattle.std.specs.Prelude.{slice_get}
use Rattle.std.specs.Str.{bytes_eq}
use Rattle.std.specs.Option.{option_map}
use Rattle.std.proofs.lemmas.Bool.{cond-true, cond-false, cases_eq, cases_lt, false_from_ne_true, lt-ltb, le-ltb}
use Rattle.std.proofs.lemmas.Slice.Eq.{bytes_eq-Decides}
use Rattle.edge_io.specs.Disk.{Files, put, Disk, Folder, IsImage, at_rest}
use Rattle.edge_io.specs.Steps.{Goes}
use Rattle.edge_io.proofs.Going.{goes_from}
use Rattle.edge_io.proofs.Passing.{passes_weaker}
use Rattle.run_shelf.specs.Bases.{base_name}
use Rattle.run_shelf.specs.Drafts.{OfDraft}
use Rattle.run_shelf.specs.Holds.{FitsFolder, FitsWhereTold}
use Rattle.run_shelf.specs.Images.{KeepsFile, PassesFile, KeepsRun, PassesRun, HasRunBeside}
use Rattle.run_shelf.specs.Repository.{Run, run_of, run_of_files, is_old, run_at, full_name, partial_name, run_name, most_runs, Shows, HasKinds, HasGoodBase, IsFirstFree, IsRepository, base_of, format_name}
use Rattle.run_shelf.proofs.BaseLemmas.{base_few, base_still, good_still, run_still, format_still}
use Rattle.run_shelf.proofs.NameLemmas.{partial_differs, full_same, partial_same, format_differs, base_differs}
use Rattle.run_shelf.proofs.Joining.{rest_images, goes_with, some_after}

pub put_other : (files : Files) (name bytes q : List ℕ) → (q ≡ name → ⊥) → put files name bytes q ≡ files q
put_other files name bytes q differs = cond-false (bytes_eq q name) (Some bytes) (files q) (false_from_ne_true _ (λ t. differs ((bytes_eq-Decides q name).0 t)))

put_some : (files : Files) (name bytes q : List ℕ) → IsSome (files q) → IsSome (put files name bytes q)
put_some files name bytes q some = by (bytes_eq q name)
  where
    by : (b : Bool) → IsSome (if b then Some bytes else files q)
    by true = refl
    by false = some

pub put_here : (files : Files) (name bytes q : List ℕ) → q ≡ name → put files name bytes q ≡ Some bytes
put_here files name bytes q same = cond-true (bytes_eq q name) (Some bytes) (files q) ((bytes_eq-Decides q name).1 same)

module _ {X : Type 0} where
  pub last_item : (xs : List X) (x : X) → slice_get (xs ++ x ∷ []) (length xs) ≡ Some x
  last_item [] x = refl
  last_item (y ∷ xs) x = last_item xs x

  pub other_item : (xs : List X) (x : X) (k : ℕ) → (k ≡ length xs → ⊥) → slice_get (xs ++ x ∷ []) k ≡ slice_get xs k
  other_item [] x zero differs = absurd (differs refl)
  other_item [] x (suc k) differs = refl
  other_item (y ∷ xs) x zero differs = refl
  other_item (y ∷ xs) x (suc k) differs = other_item xs x k (λ e. differs (omega (arith, e)))

  pub past_items : (xs : List X) (k : ℕ) → length xs ≤ k → slice_get xs k ≡ None
  past_items [] k past = refl
  past_items (y ∷ xs) zero past = absurd (omega arith)
  past_items (y ∷ xs) (suc k) past = past_items xs k (omega arith)

  pub within_items : (xs : List X) (k : ℕ) → k < length xs → IsSome (slice_get xs k)
  within_items [] k within = absurd (omega arith)
  within_items (y ∷ xs) zero within = refl
  within_items (y ∷ xs) (suc k) within = within_items xs k (omega arith)

pub none_is_not_some : {A : Type 0} (o : Option A) → o ≡ None → IsSome o → ⊥
none_is_not_some None none some = cc
none_is_not_some (Some a) none some = cc

-- a number has a run exactly where it has a kind
kind_none : (run : Option Run) → option_map (λ r. r.partial) run ≡ None → run ≡ None
kind_none None none = refl
kind_none (Some run) none = cc

kind_some : (run : Option Run) → IsSome (option_map (λ r. r.partial) run) → IsSome run
kind_some None some = some
kind_some (Some run) some = some

full_none : (full partial : Option (List ℕ)) → run_of_files false full partial ≡ None → full ≡ None
full_none None partial none = refl
full_none (Some bytes) partial none = cc

-- a number that the base counts has a run, and so one without a run is a new one
old_run : (full partial : Option (List ℕ)) → IsSome partial → IsSome (run_of_files true full partial)
old_run full None some = cc
old_run full (Some bytes) some = refl

pub new_number : (files : Files) (number : ℕ) → HasGoodBase files → run_at files number ≡ None → is_old files number ≡ false
new_number files number good none = elim (cases_lt number (base_of files).count) [
  | inl counted ↦
      absurd (none_is_not_some (run_at files number) none
      (subst (λ b. IsSome (run_of_files b (files (full_name number)) (files (partial_name number)))) (sym (lt-ltb number (base_of files).count counted)) (old_run (files (full_name number)) (files (partial_name number)) (good.old number counted))))
  | inr behind ↦ le-ltb number (base_of files).count behind
]

module _ (files : Files) (kinds : List Bool) (has : HasKinds files kinds) where
  pub free_here : length kinds < most_runs → run_at files (length kinds) ≡ None
  free_here room = kind_none (run_at files (length kinds)) (has.each (length kinds) room ∙ past_items kinds (length kinds) (omega arith))

  pub taken_before : (k : ℕ) → k < length kinds → IsSome (run_at files k)
  taken_before k before = kind_some (run_at files k) (subst IsSome (sym (has.each k (omega (arith, has.few)))) (within_items kinds k before))

  pub first_free : length kinds < most_runs → IsFirstFree files (length kinds)
  first_free room = record { few = room; free = free_here room; before = taken_before }

-- the first number without a run is the number of runs
module _ (files : Files) (runs : List Run) (number : ℕ) (shows : Shows files runs) (free : IsFirstFree files number) where
  least : length runs ≤ number
  least = elim (cases_lt number (length runs)) [
    | inl less ↦ absurd (none_is_not_some (run_at files number) free.free (subst IsSome (sym (shows.each number free.few)) (within_items runs number less)))
    | inr most ↦ most
  ]

  pub free_is_length : number ≡ length runs
  free_is_length = elim (cases_lt (length runs) number) [
    | inl less ↦ absurd (none_is_not_some (run_at files (length runs)) (shows.each (length runs) (omega (arith, free.few)) ∙ past_items runs (length runs) (omega arith)) (free.before (length runs) less))
    | inr most ↦ omega (arith, least)
  ]

module _ (files : Files) (number : ℕ) (small : number < most_runs) (good : HasGoodBase files) (free : run_at files number ≡ None) (bytes : List ℕ) where
  -- the files with a run beside them
  abbrev with_run : Bool → Files
  with_run partial = put files (run_name number partial) bytes

  pub format_stays : (partial : Bool) → with_run partial format_name ≡ files format_name
  format_stays partial = put_other files (run_name number partial) bytes format_name (format_differs number partial (omega arith))

  pub base_stays : (partial : Bool) → with_run partial base_name ≡ files base_name
  base_stays partial = put_other files (run_name number partial) bytes base_name (base_differs number partial (omega arith))

  new_here : is_old files number ≡ false
  new_here = new_number files number good free

  still_new : (partial : Bool) (k : ℕ) → k ≡ number → is_old (with_run partial) k ≡ false
  still_new partial k same = (λ i. ltb (same i) (base_still files (with_run partial) (format_stays partial) (base_stays partial) i).count) ∙ new_here

  no_full : files (full_name number) ≡ None
  no_full = full_none (files (full_name number)) (files (partial_name number)) (subst (λ b. run_of_files b (files (full_name number)) (files (partial_name number)) ≡ None) new_here free)

  pub here : (partial : Bool) (k : ℕ) → k ≡ number → run_at (with_run partial) k ≡ Some (run_of partial bytes)
  here false k same =
      ap (λ b. run_of_files b (with_run false (full_name k)) (with_run false (partial_name k))) (still_new false k same)
      ∙ ap (λ found. run_of_files false found (with_run false (partial_name k))) (put_here files (full_name number) bytes (full_name k) (ap full_name same))
  here true k same =
      let none : with_run true (full_name k) ≡ None =
      put_other files (partial_name number) bytes (full_name k) (λ e. partial_differs number k (omega (arith, same)) (sym e))
      ∙ ap (λ (n : ℕ). files (full_name n)) same ∙ no_full in
      ap (λ b. run_of_files b (with_run true (full_name k)) (with_run true (partial_name k))) (still_new true k same)
      ∙ ap (λ found. run_of_files false found (with_run true (partial_name k))) none
      ∙ ap (run_of_files false None) (put_here files (partial_name number) bytes (partial_name k) (ap partial_name same))

  pub elsewhere : (partial : Bool) (k : ℕ) → k < most_runs → (k ≡ number → ⊥) → run_at (with_run partial) k ≡ run_at files k
  elsewhere false k few differs =
      run_still files (with_run false) (format_stays false) (base_stays false) k
      (put_other files (full_name number) bytes (full_name k) (λ e. differs (full_same k number (omega arith) (omega arith) e)))
      (put_other files (full_name number) bytes (partial_name k) (partial_differs k number (omega arith)))
  elsewhere true k few differs =
      run_still files (with_run true) (format_stays true) (base_stays true) k
      (put_other files (partial_name number) bytes (full_name k) (λ e. partial_differs number k (omega arith) (sym e)))
      (put_other files (partial_name number) bytes (partial_name k) (λ e. differs (partial_same k number (omega arith) (omega arith) e)))

module _ (files : Files) (kinds : List Bool) (repository : IsRepository files) (has : HasKinds files kinds) (room : length kinds < most_runs) (partial : Bool) (bytes : List ℕ) where
  abbrev number : ℕ
  number = length kinds

  abbrev run : Run
  run = run_of partial bytes

  abbrev image : Files
  image = put files (run_name number partial) bytes

  free : run_at files number ≡ None
  free = free_here files kinds has room

  at_number : (k : ℕ) → k ≡ number → run_at image k ≡ Some run
  at_number k same = here files number room repository.base free bytes partial k same

  at_other : (k : ℕ) → k < most_runs → (k ≡ number → ⊥) → run_at image k ≡ run_at files k
  at_other k few differs = elsewhere files number room repository.base free bytes partial k few differs

  no_gap_before : (k : ℕ) → k < most_runs → IsSome (run_at files k) ⊎ (k ≡ number) → IsSome (run_at image k)
  no_gap_before k few (inr same) = subst IsSome (sym (at_number k same)) refl
  no_gap_before k few (inl some) = elim (cases_eq k number) [
    | inl same ↦ subst IsSome (sym (at_number k same)) refl
    | inr differs ↦ subst IsSome (sym (at_other k few differs)) some
  ]

  no_gap : (k other : ℕ) → k < other → other < most_runs → IsSome (run_at image other) → IsSome (run_at image k)
  no_gap k other less few some = elim (cases_eq other number) [
    | inl same ↦ no_gap_before k (omega arith) (inl (taken_before files kinds has k (omega (arith, same))))
    | inr differs ↦ no_gap_before k (omega arith) (inl (repository.no_gap k other less few (subst IsSome (at_other other few differs) some)))
  ]

  pub beside_repository : IsRepository image
  beside_repository =
      let format : image format_name ≡ files format_name = format_stays files number room repository.base free bytes partial in
      record {
        format = format_still files image format repository.format;
        base = good_still files image format (base_stays files number room repository.base free bytes partial) (λ k few some. put_some files (run_name number partial) bytes (partial_name k) some) repository.base;
        no_gap = no_gap;
      }

  counts : (runs : List Run) → Shows files runs → number ≡ length runs
  counts runs shows = free_is_length files runs number shows (first_free files kinds has room)

  shows_more : (runs : List Run) → Shows files runs → Shows image (runs ++ run ∷ [])
  shows_more runs shows =
      let is = counts runs shows in
      record {
        few = omega (arith, length-append runs (run ∷ []), is);
        each = λ k few. elim (cases_eq k number) [
          | inl same ↦ at_number k same ∙ sym (ap (slice_get (runs ++ run ∷ [])) (same ∙ is) ∙ last_item runs run)
          | inr differs ↦ at_other k few differs ∙ shows.each k few ∙ sym (other_item runs run k (λ e. differs (e ∙ sym is)))
        ];
      }

  pub beside : (other : Files) → other ≡ image → HasRunBeside files number run other
  beside other is = record {
    is = is;
    repository = subst IsRepository (sym is) beside_repository;
    counts = counts;
    shows = λ runs shows. subst (λ (f : Files). Shows f (runs ++ run ∷ [])) (sym is) (shows_more runs shows);
  }

  pub kinds_more : HasKinds image (kinds ++ partial ∷ [])
  kinds_more = record {
    few = omega (arith, length-append kinds (partial ∷ []));
    each = λ k few. elim (cases_eq k number) [
      | inl same ↦ ap (option_map (λ (r : Run). r.partial)) (at_number k same) ∙ sym (ap (slice_get (kinds ++ partial ∷ [])) same ∙ last_item kinds partial)
      | inr differs ↦ ap (option_map (λ (r : Run). r.partial)) (at_other k few differs) ∙ has.each k few ∙ sym (other_item kinds partial k differs)
    ];
  }

-- the base counts no more runs than there are
base_within : (files : Files) (kinds : List Bool) → IsRepository files → HasKinds files kinds → (base_of files).count ≤ length kinds
base_within files kinds repository has = elim (cases_lt (length kinds) (base_of files).count) [
  | inl more ↦
      let few : length kinds < most_runs = omega (arith, more, base_few files repository.base.form) in
      let free : run_at files (length kinds) ≡ None = free_here files kinds has few in
      absurd (true≢false (sym (lt-ltb (length kinds) (base_of files).count more) ∙ new_number files (length kinds) repository.base free))
  | inr most ↦ most
]

pub within_base : (kinds : List Bool) (s : Folder) → FitsFolder kinds s → (base_of s.disk.published).count ≤ length kinds
within_base kinds s fits = base_within s.disk.published kinds fits.repository fits.kinds_are

pub base_behind : (files : Files) (runs : List Run) → IsRepository files → Shows files runs → (base_of files).count ≤ length runs
base_behind files runs repository shows = elim (cases_lt (length runs) (base_of files).count) [
  | inl more ↦
      let few : length runs < most_runs = omega (arith, more, base_few files repository.base.form) in
      let free : run_at files (length runs) ≡ None = shows.each (length runs) few ∙ past_items runs (length runs) (omega arith) in
      absurd (true≢false (sym (lt-ltb (length runs) (base_of files).count more) ∙ new_number files (length runs) repository.base free))
  | inr most ↦ most
]

-- a run beside the files leaves the base
pub base_beside_run : (files : Files) (number : ℕ) (run : Run) → number < most_runs → base_of (put files (run_name number run.partial) run.bytes) ≡ base_of files
base_beside_run files number run few =
    base_still files (put files (run_name number run.partial) run.bytes)
    (put_other files (run_name number run.partial) run.bytes format_name (format_differs number run.partial (omega (arith, few))))
    (put_other files (run_name number run.partial) run.bytes base_name (base_differs number run.partial (omega (arith, few))))

-- where the folder is told or not
module _ (kinds : List Bool) (room : length kinds < most_runs) (partial : Bool) (bytes name : List ℕ) (is : name ≡ run_name (length kinds) partial) (a b : Option Folder) (fits : FitsWhereTold kinds a) where
  image_is : (files : Files) → put files name bytes ≡ put files (run_name (length kinds) partial) bytes
  image_is files = ap (λ (n : List ℕ). put files n bytes) is

  keeps : (s t : Folder) → FitsFolder kinds s → KeepsFile name bytes s t → KeepsRun (length kinds) (run_of partial bytes) s t
  keeps s t fit kept =
      let disk : t.disk ≡ at_rest (put s.disk.published (run_name (length kinds) partial) bytes) = kept ∙ ap at_rest (image_is s.disk.published) in
      record {
        disk = disk;
        lasts = λ image left.
            beside s.disk.published kinds fit.repository fit.kinds_are room partial bytes image
            (rest_images (put s.disk.published (run_name (length kinds) partial) bytes) image (subst (λ (d : Disk). IsImage d image) disk left));
      }

  pub goes_keeps : Goes a b (KeepsFile name bytes) → Goes a b (KeepsRun (length kinds) (run_of partial bytes))
  goes_keeps kept = goes_from a b (FitsFolder kinds) (KeepsFile name bytes) (KeepsRun (length kinds) (run_of partial bytes)) fits kept keeps

  fits_more : (s t : Folder) → FitsFolder kinds s × KeepsFile name bytes s t → FitsFolder (kinds ++ partial ∷ []) t
  fits_more s t both =
      let published : t.disk.published ≡ put s.disk.published (run_name (length kinds) partial) bytes = ap (λ (d : Disk). d.published) both.1 ∙ image_is s.disk.published in
      record {
        rest = both.1 ∙ ap at_rest (sym (ap (λ (d : Disk). d.published) both.1));
        repository = subst IsRepository (sym published) (beside_repository s.disk.published kinds both.0.repository both.0.kinds_are room partial bytes);
        kinds_are = subst (λ (f : Files). HasKinds f (kinds ++ partial ∷ [])) (sym published) (kinds_more s.disk.published kinds both.0.repository both.0.kinds_are room partial bytes);
      }

  pub goes_fits : Goes a b (KeepsFile name bytes) → FitsWhereTold (kinds ++ partial ∷ []) b
  goes_fits kept = some_after a b (λ s t. FitsFolder kinds s × KeepsFile name bytes s t) (FitsFolder (kinds ++ partial ∷ [])) (goes_with a b (FitsFolder kinds) (KeepsFile name bytes) fits kept) fits_more

  passes : (s t : Folder) → FitsFolder kinds s → PassesFile name bytes s t → PassesRun (length kinds) (run_of partial bytes) s t
  passes s t fit through =
      passes_weaker (λ image. IsImage s.disk image ⊎ (image ≡ put s.disk.published name bytes)) (λ image. IsImage s.disk image ⊎ HasRunBeside s.disk.published (length kinds) (run_of partial bytes) image)
      (allowed s fit) s t through
    where
      allowed : (s : Folder) → FitsFolder kinds s → (image : Files) → IsImage s.disk image ⊎ (image ≡ put s.disk.published name bytes) → IsImage s.disk image ⊎ HasRunBeside s.disk.published (length kinds) (run_of partial bytes) image
      allowed s fit left (inl old) = inl old
      allowed s fit left (inr new) = inr (beside s.disk.published kinds fit.repository fit.kinds_are room partial bytes left (new ∙ image_is s.disk.published))

  pub goes_passes : Goes a b (PassesFile name bytes) → Goes a b (PassesRun (length kinds) (run_of partial bytes))
  goes_passes through = goes_from a b (FitsFolder kinds) (PassesFile name bytes) (PassesRun (length kinds) (run_of partial bytes)) fits through passes

-- the same of a draft
module _ (kinds : List Bool) (room : length kinds < most_runs) (partial : Bool) (name : List ℕ) (is : name ≡ run_name (length kinds) partial) (a b : Option Folder) (fits : FitsWhereTold kinds a) where
  pub draft_keeps : Goes a b (OfDraft (KeepsFile name)) → Goes a b (OfDraft (λ bytes. KeepsRun (length kinds) (run_of partial bytes)))
  draft_keeps kept =
      goes_from a b (FitsFolder kinds) (OfDraft (KeepsFile name)) (OfDraft (λ bytes. KeepsRun (length kinds) (run_of partial bytes))) fits kept
      (λ s t fit of. record { bytes = of.bytes; are = of.are; does = keeps kinds room partial of.bytes name is a b fits s t fit of.does })

  pub draft_fits : Goes a b (OfDraft (KeepsFile name)) → FitsWhereTold (kinds ++ partial ∷ []) b
  draft_fits kept =
      some_after a b (λ s t. FitsFolder kinds s × OfDraft (KeepsFile name) s t) (FitsFolder (kinds ++ partial ∷ []))
      (goes_with a b (FitsFolder kinds) (OfDraft (KeepsFile name)) fits kept)
      (λ s t both. fits_more kinds room partial both.1.bytes name is a b fits s t (both.0, both.1.does))

  pub draft_passes : Goes a b (OfDraft (PassesFile name)) → Goes a b (OfDraft (λ bytes. PassesRun (length kinds) (run_of partial bytes)))
  draft_passes through =
      goes_from a b (FitsFolder kinds) (OfDraft (PassesFile name)) (OfDraft (λ bytes. PassesRun (length kinds) (run_of partial bytes))) fits through
      (λ s t fit of. record { bytes = of.bytes; are = of.are; does = passes kinds room partial of.bytes name is a b fits s t fit of.does })

-- What keeps files sound.
use Rattle.std.proofs.Common.{◌≡◌, inl, inr, ℕ, ◌<◌, ◌≤◌, true, false, List, length, Some, None, IsSome, refl, sym, ap, ◌∙◌, subst, arith, get_or}
use Rattle.std.specs.FinMap.{FinMap}
use Rattle.std.proofs.lemmas.Bool.{cases_lt}
use Rattle.edge_io.specs.Disk.{Files, put}
use Rattle.outcome_fold.specs.Order.{text_cmp}
use Rattle.run_shelf.specs.Bases.{Base, base_name}
use Rattle.run_shelf.specs.Images.{HasRunBeside, HasFormatBeside}
use Rattle.run_shelf.specs.Repository.{Run, base_of, run_at, run_name, full_name, partial_name, most_runs, format_name, format_bytes, Shows, IsRepository}
use Rattle.run_shelf.specs.Sides.{cache_file_name}
use Rattle.run_shelf.specs.declared.cache_file.CacheFile.{CacheFile}
use Rattle.run_shelf.specs.declared.cache_file.CacheFile.TheVariants.{Failing, Times}
use Rattle.run_shelf.proofs.BaseLemmas.{base_first, base_nothing, base_still, same_run}
use Rattle.run_shelf.proofs.NameLemmas.{side_differs, side_no_format, format_differs, base_differs}
use Rattle.run_shelf.proofs.RunLemmas.{put_here, put_other, other_item, past_items, within_items, none_is_not_some}
use Rattle.run_shelf.proofs.SameLemmas.{run_stays, base_same, same_put}
use Rattle.run_shelf.proofs.ShowsLemmas.{shown}
use Rattle.run_ledger.specs.Caches.{IsFailingCache, IsTimesCache, SaidOfFirst, FailingOfFirst, IsSound}
use Rattle.run_ledger.specs.Ledger.{RunRows, failing_after, times_after}

-- each run that the files have is the same in the image
abbrev KeepsEachRun : Files → Files → Type 0
KeepsEachRun files image = (number : ℕ) → number < most_runs → IsSome (run_at files number) → run_at image number ≡ run_at files number

said_still : {X : Type 0} (says : List RunRows → X) (files image : Files) (covers : ℕ) (x : X) → KeepsEachRun files image → SaidOfFirst says files covers x → SaidOfFirst says image covers x
said_still says files image covers x keeps said = record {
  runs = said.runs;
  first = record {
    few = said.first.few;
    each = λ number less. keeps number (omega (arith, less, said.first.few)) (subst IsSome (sym (said.first.each number less)) (within_items said.runs number less)) ∙ said.first.each number less;
  };
  count = said.count;
  entries = said.entries;
  rows = said.rows;
  said = said.said;
}

failing_still : (files image : Files) (covers : ℕ) (ids : List (List ℕ)) → KeepsEachRun files image → base_of image ≡ base_of files → FailingOfFirst files covers ids → FailingOfFirst image covers ids
failing_still files image covers ids keeps base said = record {
  behind = subst (λ (b : Base). b.count ≤ covers) (sym base) said.behind;
  said = subst (λ (b : Base). SaidOfFirst (failing_after b) image covers ids) (sym base) (said_still (failing_after (base_of files)) files image covers ids keeps said.said);
}

sound_still : (files image : Files) → KeepsEachRun files image → base_of image ≡ base_of files → image (cache_file_name Failing) ≡ files (cache_file_name Failing) → image (cache_file_name Times) ≡ files (cache_file_name Times) → IsSound files → IsSound image
sound_still files image keeps base failing times sound = record {
  failing = λ bytes covers ids file form. failing_still files image covers ids keeps base (sound.failing bytes covers ids (sym failing ∙ file) form);
  times = λ bytes covers latest file form. said_still times_after files image covers latest keeps (sound.times bytes covers latest (sym times ∙ file) form);
}

-- no caches
pub sound_without : (files : Files) → files (cache_file_name Failing) ≡ None → files (cache_file_name Times) ≡ None → IsSound files
sound_without files failing times = record {
  failing = λ bytes covers ids file form. absurd (none_is_not_some (files (cache_file_name Failing)) failing (subst IsSome (sym file) refl));
  times = λ bytes covers latest file form. absurd (none_is_not_some (files (cache_file_name Times)) times (subst IsSome (sym file) refl));
}

-- one run more
module _ (files image : Files) (number : ℕ) (run : Run) (beside : HasRunBeside files number run image) (repository : IsRepository files) where
  runs_before : (runs : List Run) × Shows files runs
  runs_before = shown files repository

  small : number ≤ most_runs
  small = omega (arith, beside.counts runs_before.0 runs_before.1, runs_before.1.few)

  side_still : (side : CacheFile) → image (cache_file_name side) ≡ files (cache_file_name side)
  side_still side =
      ap (λ (f : Files). f (cache_file_name side)) beside.is
      ∙ put_other files (run_name number run.partial) run.bytes (cache_file_name side) (λ e. side_differs side number run.partial (omega (arith, small)) (sym e))

  keeps_before : KeepsEachRun files image
  keeps_before k few some = elim (cases_lt k (length runs_before.0)) [
    | inl less ↦
        (beside.shows runs_before.0 runs_before.1).each k few
        ∙ other_item runs_before.0 run k (λ e. omega (arith, e, less))
        ∙ sym (runs_before.1.each k few)
    | inr past ↦ absurd (none_is_not_some (run_at files k) (runs_before.1.each k few ∙ past_items runs_before.0 k past) some)
  ]

  other_still : (name : List ℕ) → (name ≡ run_name number run.partial → ⊥) → image name ≡ files name
  other_still name differs = ap (λ (f : Files). f name) beside.is ∙ put_other files (run_name number run.partial) run.bytes name differs

  base_beside : base_of image ≡ base_of files
  base_beside = base_still files image (other_still format_name (format_differs number run.partial (omega (arith, small)))) (other_still base_name (base_differs number run.partial (omega (arith, small))))

  pub sound_beside : IsSound files → IsSound image
  sound_beside sound = sound_still files image keeps_before base_beside (side_still Failing) (side_still Times) sound

-- `format`
pub sound_format : (files image : Files) → HasFormatBeside files image → IsSound files → IsSound image
sound_format files image beside sound = sound_still files image keeps base (side Failing) (side Times) sound
  where
    at : (name : List ℕ) → (name ≡ format_name → ⊥) → image name ≡ files name
    at name differs = ap (λ (f : Files). f name) beside.is ∙ put_other files format_name format_bytes name differs

    side : (s : CacheFile) → image (cache_file_name s) ≡ files (cache_file_name s)
    side s = at (cache_file_name s) (λ e. side_no_format s (sym e))

    first : image format_name ≡ Some format_bytes
    first = ap (λ (f : Files). f format_name) beside.is ∙ put_here files format_name format_bytes format_name refl

    base : base_of image ≡ base_of files
    base = base_first image first ∙ sym (base_nothing files beside.absent)

    keeps : KeepsEachRun files image
    keeps k few some =
        same_run files image base k (at (full_name k) (λ e. format_differs k false (omega (arith, few)) (sym e))) (at (partial_name k) (λ e. format_differs k true (omega (arith, few)) (sym e)))

-- the file of a cache
sides_differ : cache_file_name Times ≡ cache_file_name Failing → ⊥
sides_differ same = omega (arith, ap (λ (l : List ℕ). get_or l 0 0) same)

some_file : (a b : List ℕ) → Some a ≡ Some b → a ≡ b
some_file a b e = cc

put_is : (files : Files) (name bytes other : List ℕ) → put files name bytes name ≡ Some other → other ≡ bytes
put_is files name bytes other is = some_file other bytes (sym is ∙ put_here files name bytes name refl)

side_keeps : (files : Files) (side : CacheFile) (bytes : List ℕ) → KeepsEachRun files (put files (cache_file_name side) bytes)
side_keeps files side bytes k few some = run_stays files (put files (cache_file_name side) bytes) (same_put files side bytes) k few

side_base : (files : Files) (side : CacheFile) (bytes : List ℕ) → base_of (put files (cache_file_name side) bytes) ≡ base_of files
side_base files side bytes = base_same files (put files (cache_file_name side) bytes) (same_put files side bytes)

pub said_beside : {X : Type 0} (says : List RunRows → X) (files : Files) (side : CacheFile) (bytes : List ℕ) (covers : ℕ) (x : X) → SaidOfFirst says files covers x → SaidOfFirst says (put files (cache_file_name side) bytes) covers x
said_beside says files side bytes covers x said = said_still says files (put files (cache_file_name side) bytes) covers x (side_keeps files side bytes) said

pub sound_failing : (files : Files) (bytes : List ℕ) → ((covers : ℕ) (ids : List (List ℕ)) → IsFailingCache bytes covers ids → FailingOfFirst files covers ids) → IsSound files → IsSound (put files (cache_file_name Failing) bytes)
sound_failing files bytes said sound =
    let image : Files = put files (cache_file_name Failing) bytes in
    let keeps : KeepsEachRun files image = side_keeps files Failing bytes in
    record {
      failing = λ found covers ids file form.
          failing_still files image covers ids keeps (side_base files Failing bytes) (said covers ids (subst (λ (l : List ℕ). IsFailingCache l covers ids) (put_is files (cache_file_name Failing) bytes found file) form));
      times = λ found covers latest file form.
          said_still times_after files image covers latest keeps (sound.times found covers latest (sym (put_other files (cache_file_name Failing) bytes (cache_file_name Times) sides_differ) ∙ file) form);
    }

pub sound_times : (files : Files) (bytes : List ℕ) → ((covers : ℕ) (times : FinMap text_cmp ℕ) → IsTimesCache bytes covers times → SaidOfFirst times_after files covers times) → IsSound files → IsSound (put files (cache_file_name Times) bytes)
sound_times files bytes said sound =
    let image : Files = put files (cache_file_name Times) bytes in
    let keeps : KeepsEachRun files image = side_keeps files Times bytes in
    record {
      failing = λ found covers ids file form.
          failing_still files image covers ids keeps (side_base files Times bytes) (sound.failing found covers ids (sym (put_other files (cache_file_name Times) bytes (cache_file_name Failing) (λ e. sides_differ (sym e))) ∙ file) form);
      times = λ found covers latest file form.
          said_still times_after files image covers latest keeps (said covers latest (subst (λ (l : List ℕ). IsTimesCache l covers latest) (put_is files (cache_file_name Times) bytes found file) form));
    }

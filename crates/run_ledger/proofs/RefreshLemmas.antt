-- What a refresh of the caches leaves.
use Rattle.std.proofs.Common.{◌≡◌, ◌⊎◌, inl, inr, ℕ, ◌+◌, ◌≤◌, Bool, true, false, true≢false, List, [], length, Option, Some, None, IfSome, IsSome, Result, Ok, Err, OnOk, refl, sym, ap, ◌∙◌, subst, arith}
use Rattle.std.specs.Prelude.{slice_get}
use Rattle.std.specs.FinMap.{FinMap}
use Rattle.std.specs.List.Sorted.{IsStrictlySortedBy}
use Rattle.std.proofs.lemmas.Bool.{cases_lt}
use Rattle.std.proofs.lemmas.List.{length-map}
use Rattle.edge_io.specs.Causes.{RisesExactlyIf}
use Rattle.edge_io.specs.Disk.{Files, put, Disk, Folder, IsImage, at_rest}
use Rattle.edge_io.specs.Moments.{LeavesOnly, Passes}
use Rattle.edge_io.specs.Steps.{Goes, Stays}
use Rattle.edge_io.proofs.Going.{goes_weaker, goes_from, goes_then}
use Rattle.edge_io.proofs.Passing.{passes_same, passes_then, passes_weaker}
use Rattle.outcome_fold.specs.declared.row.Row.{Row}
use Rattle.outcome_fold.specs.Order.{text_cmp}
use Rattle.outcome_fold.specs.Answers.{failing_of, times_of}
use Rattle.run_shelf.specs.declared.faults.ShelfCall.{ShelfCall}
use Rattle.run_shelf.specs.declared.faults.ShelfCall.TheVariants.{Names, Length, ReadAt, StartDraft, Append, SyncDraft, Publish, SyncFolder}
use Rattle.run_shelf.specs.declared.faults.StoreFault.{StoreFault}
use Rattle.run_shelf.specs.declared.faults.StoreFault.TheVariants.{Shelf, Closed}
use Rattle.run_shelf.specs.declared.cache_file.CacheFile.{CacheFile}
use Rattle.run_shelf.specs.declared.cache_file.CacheFile.TheVariants.{Failing, Times}
use Rattle.run_shelf.specs.Holds.{FitsFolder}
use Rattle.run_shelf.specs.Images.{ReadsFile}
use Rattle.run_shelf.specs.Outcomes.{KeepFails}
use Rattle.run_shelf.specs.Repository.{Run, Shows, base_of}
use Rattle.run_shelf.specs.Sides.{cache_file_name, SameButCaches, KeepsButCaches, PassesButCaches, HasCacheFileBeside, PassesCacheFile, KeepsCacheFile, PutFails}
use Rattle.run_shelf.proofs.Joining.{rest_images}
use Rattle.run_shelf.proofs.BaseLemmas.{base_sorted}
use Rattle.run_shelf.proofs.RunLemmas.{past_items, none_is_not_some, within_base}
use Rattle.run_shelf.proofs.SameLemmas.{same_put, same_itself, same_then}
use Rattle.run_shelf.proofs.ShowsLemmas.{shown, kinds_of_runs}
use Rattle.run_ledger.specs.Cached.{ReadsSound}
use Rattle.run_ledger.specs.Caches.{IsFailingCache, IsTimesCache, SaidOfFirst, FailingOfFirst, IsSound}
use Rattle.run_ledger.specs.Ledger.{RunRows, ShowRows, HasRowsAt, HasNewRows, failing_behind, failing_after, IsFailingSet, times_after, replaced, AreTimes}
use Rattle.run_ledger.specs.Refreshing.{AreFolds, PutsCaches, HoldBoth, KeepsSound}
use Rattle.run_ledger.specs.SoFar.{SaysTo, CountsUpTo, FailsTo}
use Rattle.run_ledger.specs.Starts.{IsStart}
use Rattle.run_ledger.proofs.CacheLemmas.{one_failing}
use Rattle.run_ledger.proofs.CachedLemmas.{SparesFailing, SparesTimes}
use Rattle.run_ledger.proofs.LedgerLemmas.{kind_below, fails_full, fails_more, fails_all, says_more, says_all, times_folds}
use Rattle.run_ledger.proofs.SoundLemmas.{sound_failing, sound_times, said_beside}
use Rattle.run_ledger.proofs.TimedLemmas.{one_times, in_order}

-- ---- nothing was done

pub same_sides : (a : Option Folder) → Goes a a KeepsButCaches
same_sides None = tt
same_sides (Some s) = same_itself s.disk.published

pub same_passes : (a : Option Folder) → Goes a a PassesButCaches
same_passes None = tt
same_passes (Some s) = passes_same (λ image. IsImage s.disk image ⊎ SameButCaches s.disk.published image) s s refl refl

pub same_sound : (P : Folder → Type 0) (a : Option Folder) → Goes a a (λ s t. P s → KeepsSound s t)
same_sound P None = tt
same_sound P (Some s) = λ p leaves. passes_same IsSound s s refl refl

-- the same, where the folder was only read
module _ (a b : Option Folder) (same : Goes a b Stays) where
  pub read_sides : Goes a b KeepsButCaches
  read_sides = goes_weaker a b Stays KeepsButCaches same (λ s t is. subst (λ (f : Folder). KeepsButCaches s f) (sym is) (same_itself s.disk.published))

  pub read_passes : Goes a b PassesButCaches
  read_passes = goes_weaker a b Stays PassesButCaches same (λ s t is. subst (λ (f : Folder). PassesButCaches s f) (sym is) (passes_same (λ image. IsImage s.disk image ⊎ SameButCaches s.disk.published image) s s refl refl))

  pub read_sound : Goes a b KeepsSound
  read_sound = goes_weaker a b Stays KeepsSound same (λ s t is leaves. subst (λ (f : Folder). Passes IsSound s f) (sym is) (passes_same IsSound s s refl refl))

  pub read_sound_where : (P : Folder → Type 0) → Goes a b (λ s t. P s → KeepsSound s t)
  read_sound_where P = goes_weaker a b KeepsSound (λ s t. P s → KeepsSound s t) read_sound (λ s t keeps p. keeps)

-- ---- one file is put

module _ (side : CacheFile) (bytes : List ℕ) where
  kept_sides : (s t : Folder) → KeepsCacheFile side bytes s t → KeepsButCaches s t
  kept_sides s t kept = subst (λ (f : Files). SameButCaches s.disk.published f) (sym (ap (λ (d : Disk). d.published) kept.disk)) (same_put s.disk.published side bytes)

  reads_sides : (s t : Folder) → ReadsFile (cache_file_name side) bytes s t → KeepsButCaches s t
  reads_sides s t reads = subst (λ (f : Files). SameButCaches s.disk.published f) (sym reads) (same_put s.disk.published side bytes)

  disk_sides : (s t : Folder) → t.disk ≡ s.disk → KeepsButCaches s t
  disk_sides s t is = subst (λ (d : Disk). SameButCaches s.disk.published d.published) (sym is) (same_itself s.disk.published)

  fails_sides : (call : ShelfCall) (s t : Folder) → KeepFails (cache_file_name side) bytes call s t → KeepsButCaches s t
  fails_sides Names s t fails = absurd fails
  fails_sides Length s t fails = absurd fails
  fails_sides ReadAt s t fails = absurd fails
  fails_sides StartDraft s t fails = disk_sides s t fails
  fails_sides Append s t fails = disk_sides s t fails
  fails_sides SyncDraft s t fails = disk_sides s t fails
  fails_sides Publish s t (inl still) = disk_sides s t still
  fails_sides Publish s t (inr reads) = reads_sides s t reads
  fails_sides SyncFolder s t fails = reads_sides s t fails

  put_fails_sides : (fault : StoreFault) (s t : Folder) → PutFails side bytes fault s t → KeepsButCaches s t
  put_fails_sides (Shelf call) s t fails = fails_sides call s t fails
  put_fails_sides (Closed call) s t is = disk_sides s t (ap (λ (f : Folder). f.disk) is)

  pub kept_others : (a b : Option Folder) → Goes a b (KeepsCacheFile side bytes) → Goes a b KeepsButCaches
  kept_others a b kept = goes_weaker a b (KeepsCacheFile side bytes) KeepsButCaches kept kept_sides

  pub not_put_others : (fault : StoreFault) (a b : Option Folder) → Goes a b (PutFails side bytes fault) → Goes a b KeepsButCaches
  not_put_others fault a b fails = goes_weaker a b (PutFails side bytes fault) KeepsButCaches fails (put_fails_sides fault)

  side_allowed : (s : Folder) (left : Files) → IsImage s.disk left ⊎ HasCacheFileBeside s.disk.published side bytes left → IsImage s.disk left ⊎ SameButCaches s.disk.published left
  side_allowed s left (inl old) = inl old
  side_allowed s left (inr beside) = inr (subst (λ (f : Files). SameButCaches s.disk.published f) (sym beside.is) (same_put s.disk.published side bytes))

  side_passes : (s t : Folder) → PassesCacheFile side bytes s t → PassesButCaches s t
  side_passes s t through =
      passes_weaker (λ left. IsImage s.disk left ⊎ HasCacheFileBeside s.disk.published side bytes left) (λ left. IsImage s.disk left ⊎ SameButCaches s.disk.published left) (side_allowed s) s t through

  pub put_passes : (a b : Option Folder) → Goes a b (PassesCacheFile side bytes) → Goes a b PassesButCaches
  put_passes a b through = goes_weaker a b (PassesCacheFile side bytes) PassesButCaches through side_passes

-- what the runs say together is said of as many first runs as there are
module _ {X : Type 0} (says : List RunRows → X) (s : Folder) (kinds : List Bool) (fits : FitsFolder kinds s) (covers : ℕ) (all : covers ≡ length kinds) where
  runs_are : (runs : List Run) → Shows s.disk.published runs → length runs ≡ covers
  runs_are runs shows = sym (all ∙ ap length (kinds_of_runs s.disk.published runs kinds shows fits.kinds_are) ∙ length-map runs (λ (run : Run). run.partial))

  said_of_all : (x : X) → (entries : List RunRows) × ShowRows s.disk.published entries × (x ≡ says entries) → SaidOfFirst says s.disk.published covers x
  said_of_all x (entries, show, said) = record {
    runs = show.runs;
    first = record { few = show.shown.few; each = λ number less. show.shown.each number (omega (arith, less, show.shown.few)) };
    count = runs_are show.runs show.shown;
    entries = entries;
    rows = show.are;
    said = said;
  }

-- ---- both files are put, one after the other

module _ (kinds : List Bool) (covers : ℕ) (all : covers ≡ length kinds) (ids : List (List ℕ)) (times : FinMap text_cmp ℕ) (failing_bytes times_bytes : List ℕ)
    (failing : IsStrictlySortedBy text_cmp ids → IsFailingCache failing_bytes covers ids) (timed : IsTimesCache times_bytes covers times) where
  abbrev with_failing : Files → Files
  with_failing files = put files (cache_file_name Failing) failing_bytes

  abbrev with_both : Files → Files
  with_both files = put (with_failing files) (cache_file_name Times) times_bytes

  module _ (s : Folder) (fits : FitsFolder kinds s) (folds : AreFolds ids times s) where
    form : IsFailingCache failing_bytes covers ids
    form = failing (subst (IsStrictlySortedBy text_cmp) (sym folds.are_ids.2) (in_order (base_of s.disk.published) folds.are_ids.0 (base_sorted s.disk.published fits.repository.base.form)))

    failing_said : (also : ℕ) (others : List (List ℕ)) → IsFailingCache failing_bytes also others → FailingOfFirst s.disk.published also others
    failing_said also others other =
        let same = one_failing failing_bytes covers also ids others form other in
        subst (λ (n : ℕ). FailingOfFirst s.disk.published n others) (sym same.0)
        (subst (λ (l : List (List ℕ)). FailingOfFirst s.disk.published covers l) (sym same.1)
        (record { behind = omega (arith, all, within_base kinds s fits); said = said_of_all (failing_after (base_of s.disk.published)) s kinds fits covers all ids folds.are_ids }))

    times_said : (also : ℕ) (others : FinMap text_cmp ℕ) → IsTimesCache times_bytes also others → SaidOfFirst times_after (with_failing s.disk.published) also others
    times_said also others other =
        let same = one_times times_bytes covers also times others timed other in
        said_beside times_after s.disk.published Failing failing_bytes also others
        (subst (λ (n : ℕ). SaidOfFirst times_after s.disk.published n others) (sym same.0)
        (subst (λ (m : FinMap text_cmp ℕ). SaidOfFirst times_after s.disk.published covers m) (sym same.1) (said_of_all times_after s kinds fits covers all times folds.are_times)))

    sound_first : IsSound s.disk.published → IsSound (with_failing s.disk.published)
    sound_first sound = sound_failing s.disk.published failing_bytes failing_said sound

    sound_both : IsSound s.disk.published → IsSound (with_both s.disk.published)
    sound_both sound = sound_times (with_failing s.disk.published) times_bytes times_said (sound_first sound)

    now_sound : LeavesOnly IsSound s.disk → IsSound s.disk.published
    now_sound leaves = leaves s.disk.published (subst (λ (d : Disk). IsImage d s.disk.published) (sym fits.rest) (inl refl))

    -- the first is put, or not
    first_sound : (m : Folder) → PassesCacheFile Failing failing_bytes s m → KeepsSound s m
    first_sound m through leaves =
        passes_weaker (λ left. IsImage s.disk left ⊎ HasCacheFileBeside s.disk.published Failing failing_bytes left) IsSound allowed s m through
      where
        allowed : (left : Files) → IsImage s.disk left ⊎ HasCacheFileBeside s.disk.published Failing failing_bytes left → IsSound left
        allowed left (inl old) = leaves left old
        allowed left (inr beside) = subst IsSound (sym beside.is) (sound_first (now_sound leaves))

    -- and then the second
    module _ (m t : Folder) (kept : KeepsCacheFile Failing failing_bytes s m) where
      published : m.disk.published ≡ with_failing s.disk.published
      published = ap (λ (d : Disk). d.published) kept.disk

      image_is : (left : Files) → IsImage m.disk left → left ≡ with_failing s.disk.published
      image_is left old = rest_images (with_failing s.disk.published) left (subst (λ (d : Disk). IsImage d left) kept.disk old)

      beside_is : (left : Files) → HasCacheFileBeside m.disk.published Times times_bytes left → left ≡ with_both s.disk.published
      beside_is left beside = beside.is ∙ ap (λ (f : Files). put f (cache_file_name Times) times_bytes) published

      second_sound : LeavesOnly IsSound s.disk → PassesCacheFile Times times_bytes m t → Passes IsSound m t
      second_sound leaves through =
          passes_weaker (λ left. IsImage m.disk left ⊎ HasCacheFileBeside m.disk.published Times times_bytes left) IsSound allowed m t through
        where
          allowed : (left : Files) → IsImage m.disk left ⊎ HasCacheFileBeside m.disk.published Times times_bytes left → IsSound left
          allowed left (inl old) = subst IsSound (sym (image_is left old)) (sound_first (now_sound leaves))
          allowed left (inr beside) = subst IsSound (sym (beside_is left beside)) (sound_both (now_sound leaves))

      both_sound : PassesCacheFile Failing failing_bytes s m → PassesCacheFile Times times_bytes m t → KeepsSound s t
      both_sound first second leaves = passes_then IsSound s m t (first_sound m first leaves) (second_sound leaves second)

      has_caches : KeepsCacheFile Times times_bytes m t → PutsCaches s t
      has_caches second =
          let count : length folds.are_ids.1.runs ≡ covers = runs_are (failing_after (base_of s.disk.published)) s kinds fits covers all folds.are_ids.1.runs folds.are_ids.1.shown in
          record {
            runs = folds.are_ids.1.runs;
            shown = folds.are_ids.1.shown;
            ids = ids;
            are_ids = folds.are_ids;
            times = times;
            are_times = folds.are_times;
            failing_bytes = failing_bytes;
            failing = subst (λ (n : ℕ). IsFailingCache failing_bytes n ids) (sym count) form;
            times_bytes = times_bytes;
            timed = subst (λ (n : ℕ). IsTimesCache times_bytes n times) (sym count) timed;
            disk = second.disk ∙ ap (λ (f : Files). at_rest (put f (cache_file_name Times) times_bytes)) published;
          }

  -- what is not said of the caches
  module _ (s m t : Folder) (kept : KeepsCacheFile Failing failing_bytes s m) where
    second_allowed : (left : Files) → IsImage m.disk left ⊎ SameButCaches m.disk.published left → IsImage s.disk left ⊎ SameButCaches s.disk.published left
    second_allowed left (inl old) =
        inr (subst (λ (f : Files). SameButCaches s.disk.published f) (sym (rest_images (with_failing s.disk.published) left (subst (λ (d : Disk). IsImage d left) kept.disk old))) (same_put s.disk.published Failing failing_bytes))
    second_allowed left (inr same) = inr (same_then s.disk.published m.disk.published left (kept_sides Failing failing_bytes s m kept) same)

    both_pass : PassesCacheFile Failing failing_bytes s m → PassesButCaches m t → PassesButCaches s t
    both_pass first second =
        passes_then (λ left. IsImage s.disk left ⊎ SameButCaches s.disk.published left) s m t (side_passes Failing failing_bytes s m first)
        (passes_weaker (λ left. IsImage m.disk left ⊎ SameButCaches m.disk.published left) (λ left. IsImage s.disk left ⊎ SameButCaches s.disk.published left) second_allowed m t second)

    both_keep : KeepsButCaches m t → KeepsButCaches s t
    both_keep second = same_then s.disk.published m.disk.published t.disk.published (kept_sides Failing failing_bytes s m kept) second

  -- the same of folders that are told or not
  module _ (a b : Option Folder) (fits : IfSome a (FitsFolder kinds)) where
    pub goes_first_sound : Goes a b (PassesCacheFile Failing failing_bytes) → Goes a b (λ s t. AreFolds ids times s → KeepsSound s t)
    goes_first_sound through = goes_from a b (FitsFolder kinds) (PassesCacheFile Failing failing_bytes) (λ s t. AreFolds ids times s → KeepsSound s t) fits through (λ s t here pass folds. first_sound s here folds t pass)

    module _ (c : Option Folder) (kept : Goes a b (KeepsCacheFile Failing failing_bytes)) where
      pub goes_both_keep : Goes b c KeepsButCaches → Goes a c KeepsButCaches
      goes_both_keep second = goes_then a b c (KeepsCacheFile Failing failing_bytes) KeepsButCaches KeepsButCaches kept second (λ s m t one two. both_keep s m t one two)

      pub goes_caches : Goes b c (KeepsCacheFile Times times_bytes) → Goes a c (λ s t. AreFolds ids times s → PutsCaches s t)
      goes_caches second =
          there a b c fits kept second
        where
          there : (a b c : Option Folder) → IfSome a (FitsFolder kinds) → Goes a b (KeepsCacheFile Failing failing_bytes) → Goes b c (KeepsCacheFile Times times_bytes) → Goes a c (λ s t. AreFolds ids times s → PutsCaches s t)
          there None None None f k w = tt
          there None None (Some t) f k w = absurd w
          there None (Some m) c f k w = absurd k
          there (Some s) None c f k w = absurd k
          there (Some s) (Some m) None f k w = absurd w
          there (Some s) (Some m) (Some t) f k w = λ folds. has_caches s f folds m t k w

      module _ (first : Goes a b (PassesCacheFile Failing failing_bytes)) where
        pub goes_both_pass : Goes b c PassesButCaches → Goes a c PassesButCaches
        goes_both_pass second =
            there a b c kept first second
          where
            there : (a b c : Option Folder) → Goes a b (KeepsCacheFile Failing failing_bytes) → Goes a b (PassesCacheFile Failing failing_bytes) → Goes b c PassesButCaches → Goes a c PassesButCaches
            there None None None k p w = tt
            there None None (Some t) k p w = absurd w
            there None (Some m) c k p w = absurd k
            there (Some s) None c k p w = absurd k
            there (Some s) (Some m) None k p w = absurd w
            there (Some s) (Some m) (Some t) k p w = both_pass s m t k p w

        pub goes_both_sound : Goes b c (PassesCacheFile Times times_bytes) → Goes a c (λ s t. AreFolds ids times s → KeepsSound s t)
        goes_both_sound second =
            there a b c fits kept first second
          where
            there : (a b c : Option Folder) → IfSome a (FitsFolder kinds) → Goes a b (KeepsCacheFile Failing failing_bytes) → Goes a b (PassesCacheFile Failing failing_bytes) → Goes b c (PassesCacheFile Times times_bytes)
                → Goes a c (λ s t. AreFolds ids times s → KeepsSound s t)
            there None None None f k p w = tt
            there None None (Some t) f k p w = absurd w
            there None (Some m) c f k p w = absurd k
            there (Some s) None c f k p w = absurd k
            there (Some s) (Some m) None f k p w = absurd w
            there (Some s) (Some m) (Some t) f k p w = λ folds. both_sound s f folds m t k p w

-- ---- the faults of two calls, one after the other

pub rises_behind : (a b c : ℕ) (failed : Bool) → RisesExactlyIf a b false → RisesExactlyIf b c failed → RisesExactlyIf a c failed
rises_behind a b c failed first second = subst (λ (n : ℕ). RisesExactlyIf n c failed) (first.stands refl) second

-- ---- what was folded and then put

-- the premise of the second step is known by that of the whole
module _ (a b c : Option Folder) (same : b ≡ a) (P Q : Folder → Type 0) where
  pub put_where : (R : Folder → Folder → Type 0) → (IfSome a P → IfSome a Q) → Goes b c (λ s t. Q s → R s t) → Goes a c (λ s t. P s → R s t)
  put_where R known second = there a c known (subst (λ (o : Option Folder). Goes o c (λ s t. Q s → R s t)) same second)
    where
      there : (a c : Option Folder) → (IfSome a P → IfSome a Q) → Goes a c (λ s t. Q s → R s t) → Goes a c (λ s t. P s → R s t)
      there None None k g = tt
      there None (Some t) k g = absurd g
      there (Some s) None k g = absurd g
      there (Some s) (Some t) k g = λ p. g (k p)

  pub sound_where : (kinds : List Bool) → IfSome a (FitsFolder kinds) → (IfSome a P → IfSome a ReadsSound → IfSome a Q) → Goes b c (λ s t. Q s → KeepsSound s t) → Goes a c (λ s t. P s → KeepsSound s t)
  sound_where kinds fits known second = there a c fits known (subst (λ (o : Option Folder). Goes o c (λ s t. Q s → KeepsSound s t)) same second)
    where
      there : (a c : Option Folder) → IfSome a (FitsFolder kinds) → (IfSome a P → IfSome a ReadsSound → IfSome a Q) → Goes a c (λ s t. Q s → KeepsSound s t) → Goes a c (λ s t. P s → KeepsSound s t)
      there None None f k g = tt
      there None (Some t) f k g = absurd g
      there (Some s) None f k g = absurd g
      there (Some s) (Some t) f k g = λ p leaves. g (k p (leaves s.disk.published (subst (λ (d : Disk). IsImage d s.disk.published) (sym f.rest) (inl refl)))) leaves

pub puts_where : {T E : Type 0} (r : Result T E) (a b c : Option Folder) → b ≡ a → (P Q : Folder → Type 0) → (IfSome a P → IfSome a ReadsSound → IfSome a Q) → OnOk r (Goes b c (λ s t. Q s → PutsCaches s t)) → OnOk r (Goes a c (λ s t. P s → ReadsSound s → PutsCaches s t))
puts_where (Err e) a b c same P Q known puts = tt
puts_where (Ok x) a b c same P Q known puts = there a c known (subst (λ (o : Option Folder). Goes o c (λ s t. Q s → PutsCaches s t)) same puts)
  where
    there : (a c : Option Folder) → (IfSome a P → IfSome a ReadsSound → IfSome a Q) → Goes a c (λ s t. Q s → PutsCaches s t) → Goes a c (λ s t. P s → ReadsSound s → PutsCaches s t)
    there None None k g = tt
    there None (Some t) k g = absurd g
    there (Some s) None k g = absurd g
    there (Some s) (Some t) k g = λ p sound. g (k p sound)

pub sound_always : (a b c : Option Folder) → b ≡ a → (Q : Folder → Type 0) (kinds : List Bool) → IfSome a (FitsFolder kinds) → (IfSome a ReadsSound → IfSome a Q) → Goes b c (λ s t. Q s → KeepsSound s t) → Goes a c KeepsSound
sound_always a b c same Q kinds fits known second =
    goes_weaker a c (λ s t. s ≡ s → KeepsSound s t) KeepsSound (sound_where a b c same (λ s. s ≡ s) Q kinds fits (λ itself sound. known sound) second) (λ s t keeps. keeps refl)

-- ---- the last run, whose rows are at hand

-- the last full run is not behind it
pub begun_before : (kinds : List Bool) (last start : ℕ) → last + 1 ≡ length kinds → slice_get kinds last ≡ Some true → IsStart kinds start → start ≤ last
begun_before kinds last start count partial begin = elim begin.full [
  | inl first ↦ omega (arith, first)
  | inr full ↦ elim (cases_lt last start) [
    | inl past ↦ absurd (none_is_not_some (slice_get kinds start) (past_items kinds start (omega (arith, past, count))) (subst (λ (o : Option Bool). IsSome o) (sym full) refl))
    | inr within ↦ within
  ]
]

rows_of_new : (state : Option Folder) (number : ℕ) (rows : List Row) → IfSome state (HasNewRows number rows) → IfSome state (HasRowsAt number rows)
rows_of_new None number rows new = tt
rows_of_new (Some s) number rows new = new.are

pub counts_before : (state : Option Folder) (number : ℕ) (rows : List Row) → IfSome state (HasNewRows number rows) → IfSome state (CountsUpTo number)
counts_before None number rows new = tt
counts_before (Some s) number rows new = new.behind

stays_itself : (state : Option Folder) → Goes state state Stays
stays_itself None = tt
stays_itself (Some s) = refl

module _ (state : Option Folder) (kinds : List Bool) (last : ℕ) (count : last + 1 ≡ length kinds) (rows : List Row) (fits : IfSome state (FitsFolder kinds)) (new : IfSome state (HasNewRows last rows)) where
  at : IfSome state (HasRowsAt last rows)
  at = rows_of_new state last rows new

  -- it is full: then it says all
  pub full_alone : slice_get kinds last ≡ Some false → (ids : List (List ℕ)) → ids ≡ failing_of rows → IfSome state (IsFailingSet ids)
  full_alone full ids is =
      fails_all state kinds (length kinds) ids (omega arith) fits
      (fails_more state state kinds kinds last (length kinds) false rows [] ids (sym count) (omega (arith, count)) refl full fits (stays_itself state) at is (fails_full state kinds last [] full fits))

  -- it is partial: it changes what those before it say
  pub partial_behind : slice_get kinds last ≡ Some true → (old ids : List (List ℕ)) → IfSome state (FailsTo kinds last old) → (IsStrictlySortedBy text_cmp old → ids ≡ failing_behind old (record { partial = true; rows = rows }))
      → IfSome state (IsFailingSet ids)
  partial_behind partial old ids before step =
      there state fits at before
    where
      item : (a b : Bool) → Some a ≡ Some b → a ≡ b
      item a b e = cc

      ordered : (s : Folder) → FitsFolder kinds s → FailsTo kinds last old s → IsStrictlySortedBy text_cmp old
      ordered s f so_far = elim so_far.2 [
        | inl known ↦ subst (IsStrictlySortedBy text_cmp) (sym known.are) (in_order (base_of s.disk.published) so_far.0 (base_sorted s.disk.published f.repository.base.form))
        | inr full ↦ absurd (true≢false (item true false (sym partial ∙ full)))
      ]

      there : (state : Option Folder) → IfSome state (FitsFolder kinds) → IfSome state (HasRowsAt last rows) → IfSome state (FailsTo kinds last old) → IfSome state (IsFailingSet ids)
      there None f h b = tt
      there (Some s) f h b =
          fails_all (Some s) kinds (length kinds) ids (omega arith) f
          (fails_more (Some s) (Some s) kinds kinds last (length kinds) true rows old ids (sym count) (omega (arith, count)) refl partial f refl h (step (ordered s f b)) b)

  pub times_behind_all : (old new : FinMap text_cmp ℕ) → IfSome state (SaysTo times_after last old) → new ≡ replaced old (times_of rows) → IfSome state (AreTimes new)
  times_behind_all old new before is =
      let kind = kind_below kinds last (omega (arith, count)) in
      says_all times_after state kinds (length kinds) new (omega arith) fits
      (says_more times_after (λ earlier entry. replaced earlier (times_of entry.rows)) times_folds state state kinds kinds last (length kinds) kind.0 rows old new (sym count) (omega (arith, count)) refl kind.1 fits (stays_itself state) at is before)

pub are_folds : (state : Option Folder) (ids : List (List ℕ)) (times : FinMap text_cmp ℕ) → IfSome state (IsFailingSet ids) → IfSome state (AreTimes times) → IfSome state (AreFolds ids times)
are_folds None ids times is are = tt
are_folds (Some s) ids times is are = record { are_ids = is; are_times = are }

-- ---- the calls, where the caches cover all but the last run

module _ (state : Option Folder) (kinds : List Bool) (fits : IfSome state (FitsFolder kinds)) (last before now : ℕ) (Open : Type 0) (open_still : Open) where
  pub two_for_failing : IfSome state (SparesFailing Open last before now) → IfSome state (λ s. HoldBoth last s → now ≤ before + 2)
  two_for_failing spares = there state fits spares
    where
      there : (state : Option Folder) → IfSome state (FitsFolder kinds) → IfSome state (SparesFailing Open last before now) → IfSome state (λ s. HoldBoth last s → now ≤ before + 2)
      there None f r = tt
      there (Some s) f r = λ both. (let runs = shown s.disk.published f.repository in omega (arith, r last both.ids both.failing (λ o. omega arith) runs.0 runs.1))

  pub two_for_times : IfSome state (SparesTimes Open last before now) → IfSome state (λ s. HoldBoth last s → now ≤ before + 2)
  two_for_times spares = there state fits spares
    where
      there : (state : Option Folder) → IfSome state (FitsFolder kinds) → IfSome state (SparesTimes Open last before now) → IfSome state (λ s. HoldBoth last s → now ≤ before + 2)
      there None f r = tt
      there (Some s) f r = λ both. (let runs = shown s.disk.published f.repository in omega (arith, r last both.times both.timed (λ o. omega arith) runs.0 runs.1))

-- no call, and more calls behind some
pub held_ticks : (state : Option Folder) (last before now calls : ℕ) → now ≤ before + calls → IfSome state (λ s. HoldBoth last s → now ≤ before + calls)
held_ticks None last before now calls ticks = tt
held_ticks (Some s) last before now calls ticks = λ both. ticks

pub held_more : (state : Option Folder) (last before middle now first second : ℕ) → IfSome state (λ s. HoldBoth last s → middle ≤ before + first) → IfSome state (λ s. HoldBoth last s → now ≤ middle + second)
    → IfSome state (λ s. HoldBoth last s → now ≤ before + (first + second))
held_more None last before middle now first second one two = tt
held_more (Some s) last before middle now first second one two = λ both. omega (arith, one both, two both)

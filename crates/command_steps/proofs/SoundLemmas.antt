-- What a stop leaves is sound, one step after another; and what is kept behind a run and its caches.
use Rattle.std.proofs.Common.{◌≡◌, ◌⊎◌, inl, inr, ℕ, ◌<◌, Bool, Option, None, Some, IfSome, Result, List, [], ◌∷◌, ◌++◌, length, length-append, get_or, Ok, refl, sym, ap, subst, ◌∙◌, arith}
use Rattle.std.specs.Prelude.{IsSomeAnd, slice_get}
use Rattle.edge_io.specs.Disk.{Files, Disk, Folder, IsImage, put, put_same}
use Rattle.edge_io.specs.Moments.{LeavesOnly, Passes}
use Rattle.edge_io.specs.Seen.{Seen}
use Rattle.edge_io.specs.Steps.{Goes}
use Rattle.edge_io.proofs.Going.{goes_then, goes_from}
use Rattle.edge_io.proofs.Passing.{passes_then, passes_weaker}
use Rattle.outcome_fold.specs.declared.row.Row.{Row}
use Rattle.run_ledger.specs.Cached.{ReadsSound}
use Rattle.run_ledger.specs.Caches.{IsSound}
use Rattle.run_ledger.specs.Ledger.{HasRowsAt, HasNewRows, RunRows, ShowRows, failing_after}
use Rattle.run_ledger.specs.Reading.{AreRowsOf}
use Rattle.run_ledger.specs.Refreshing.{PutsCaches, KeepsSound}
use Rattle.run_ledger.proofs.SoundLemmas.{sound_beside}
use Rattle.run_shelf.specs.Bases.{Base}
use Rattle.run_shelf.specs.Holds.{FitsFolder}
use Rattle.run_shelf.specs.Images.{HasRunBeside, KeepsRun, PassesRun}
use Rattle.run_shelf.specs.Outcomes.{Surveys}
use Rattle.run_shelf.specs.Repository.{Run, run_at, most_runs, base_of, Shows, IsRepository, run_of}
use Rattle.run_shelf.specs.Sides.{cache_file_name, SameButCaches, KeepsButCaches, PassesButCaches}
use Rattle.run_shelf.specs.declared.cache_file.CacheFile.TheVariants.{Failing, Times}
use Rattle.run_shelf.proofs.Joining.{at_rest_images}
use Rattle.run_shelf.proofs.RunLemmas.{last_item, put_other, base_behind, base_beside_run}
use Rattle.run_shelf.proofs.SameLemmas.{base_same, same_itself, shows_still, repository_still}
use Rattle.run_shelf.proofs.ShowsLemmas.{shown}
use Rattle.command_steps.specs.Refreshing.{Refreshes, HoldsCaches, BringsCaches}
use Rattle.command_steps.specs.Runs.{HasRunAndCaches, KeepsRepository, run_bytes, AddsRun}
use Rattle.command_steps.specs.declared.question_answers.TellFault.{TellFault}
use Rattle.command_steps.proofs.Resting.{KeepsReads, rests_images, passes_leaves, goes_both, surveyed_fits}
use Rattle.packet_codec.specs.declared.event.Event.{Event}

-- ---- one step after another

pub rests_sound : (s t : Folder) → KeepsReads s t → KeepsSound s t
rests_sound s t rests sound = passes_weaker (IsImage s.disk) IsSound sound s t rests.old

pub rests_repository : (s t : Folder) → KeepsReads s t → KeepsRepository s t
rests_repository s t rests repository = subst IsRepository (sym rests.files) repository

pub sound_then : (s m t : Folder) → KeepsSound s m → KeepsSound m t → KeepsSound s t
sound_then s m t first second sound =
    let before = first sound in
    passes_then IsSound s m t before (second (passes_leaves IsSound s m before sound))

-- ---- a repository of which a stop leaves what reads give

pub record IsCalm (s : Folder) : Type 0 where
  pub repository : IsRepository s.disk.published
  pub only : LeavesOnly (λ image. image ≡ s.disk.published) s.disk

fits_calm : (kinds : List Bool) (s : Folder) → FitsFolder kinds s → IsCalm s
fits_calm kinds s fits = record { repository = fits.repository; only = at_rest_images s fits.rest }

pub rests_calm : (s t : Folder) → IsCalm s → KeepsReads s t → IsCalm t
rests_calm s t calm rests = record {
  repository = subst IsRepository (sym rests.files) calm.repository;
  only = λ image left. calm.only image (rests_images s t rests image left) ∙ sym rests.files;
}

pub calm_after : (a b : Option Folder) → IfSome a IsCalm → Goes a b KeepsReads → IfSome b IsCalm
calm_after None None calm rests = tt
calm_after None (Some t) calm rests = absurd rests
calm_after (Some s) None calm rests = absurd rests
calm_after (Some s) (Some t) calm rests = rests_calm s t calm rests

pub surveyed_calm : (kinds : List Bool) (a b : Option Folder) → Goes a b (Surveys kinds) → IfSome b IsCalm
surveyed_calm kinds a b surveyed = told b (surveyed_fits kinds a b surveyed)
  where
    told : (o : Option Folder) → IfSome o (FitsFolder kinds) → IfSome o IsCalm
    told None fits = tt
    told (Some s) fits = fits_calm kinds s fits

-- what reads give is what a stop may leave
calm_counts : (s : Folder) → IsCalm s → IsImage s.disk s.disk.published
calm_counts s calm = inl (sym (calm.only s.disk.stable (inl refl)))

-- ---- what the caches hold that were put

names_differ : cache_file_name Failing ≡ cache_file_name Times → ⊥
names_differ same = omega (arith, ap (λ (l : List ℕ). get_or l 0 0) same)

rows_still : (files image : Files) (entries : List RunRows) → SameButCaches files image → ShowRows files entries → ShowRows image entries
rows_still files image entries but has = record { runs = has.runs; shown = shows_still files image but has.runs has.shown; are = has.are }

-- no cache is a part of the base
failing_still : (files image : Files) (ids : List (List ℕ)) (entries : List RunRows) → SameButCaches files image → ids ≡ failing_after (base_of files) entries → ids ≡ failing_after (base_of image) entries
failing_still files image ids entries but are = are ∙ ap (λ (b : Base). failing_after b entries) (sym (base_same files image but))

holds : (s t : Folder) → KeepsButCaches s t → PutsCaches s t → HoldsCaches t
holds s t but has =
    let first : Files = put s.disk.published (cache_file_name Failing) has.failing_bytes in
    let files : t.disk.published ≡ put first (cache_file_name Times) has.times_bytes = ap (λ (d : Disk). d.published) has.disk in
    record {
      runs = has.runs;
      shown = shows_still s.disk.published t.disk.published but has.runs has.shown;
      held = record {
        ids = has.ids;
        failing = record {
          bytes = has.failing_bytes;
          file = ap (λ (f : Files). f (cache_file_name Failing)) files ∙ put_other first (cache_file_name Times) has.times_bytes (cache_file_name Failing) names_differ ∙ put_same s.disk.published (cache_file_name Failing) has.failing_bytes;
          form = has.failing;
        };
        times = has.times;
        timed = record {
          bytes = has.times_bytes;
          file = ap (λ (f : Files). f (cache_file_name Times)) files ∙ put_same first (cache_file_name Times) has.times_bytes;
          form = has.timed;
        };
      };
      folds = record {
        are_ids = (has.are_ids.0, rows_still s.disk.published t.disk.published has.are_ids.0 but has.are_ids.1, failing_still s.disk.published t.disk.published has.ids has.are_ids.0 but has.are_ids.2);
        are_times = (has.are_times.0, rows_still s.disk.published t.disk.published has.are_times.0 but has.are_times.1, has.are_times.2);
      };
    }

-- ---- a run that is kept, and then the caches

pub kept_beside : (number : ℕ) (run : Run) (s t : Folder) → KeepsRun number run s t → HasRunBeside s.disk.published number run t.disk.published
kept_beside number run s t kept =
    let published : t.disk.published ≡ _ = ap (λ (d : Disk). d.published) kept.disk in
    let stable : t.disk.stable ≡ _ = ap (λ (d : Disk). d.stable) kept.disk in
    kept.lasts t.disk.published (inl (published ∙ sym stable))

-- reads give the run beside the files, and so does what each later stop leaves; and the caches are those of all runs
pub record KeepsRunAndCaches (number : ℕ) (run : Run) (s t : Folder) : Type 0 where
  pub reads : HasRunAndCaches s.disk.published number run t.disk.published
  pub lasts : LeavesOnly (HasRunAndCaches s.disk.published number run) t.disk
  pub fresh : IsCalm s → BringsCaches s t

-- a stop at each moment leaves what one at the first might have left, or the files as read then and one run more; and what
-- is sound where all that one at the first might have left is; and reads give a repository
pub record PassesAll (number : ℕ) (run : Run) (s t : Folder) : Type 0 where
  pub stops : Passes (λ image. IsImage s.disk image ⊎ HasRunAndCaches s.disk.published number run image) s t
  pub sound : KeepsSound s t
  pub repository : IsRepository t.disk.published

module _ (number : ℕ) (run : Run) where
  abbrev Left : Folder → Files → Type 0
  Left s image = IsImage s.disk image ⊎ HasRunAndCaches s.disk.published number run image

  with_caches : (files image : Files) → HasRunBeside files number run image → HasRunAndCaches files number run image
  with_caches files image beside = record { between = image; beside = beside; but = same_itself image }

  left_by : (s : Folder) (image : Files) → IsImage s.disk image ⊎ HasRunBeside s.disk.published number run image → Left s image
  left_by s image (inl before) = inl before
  left_by s image (inr beside) = inr (with_caches s.disk.published image beside)

  -- behind the run that was kept
  behind : (s m : Folder) → KeepsRun number run s m → (image : Files) → IsImage m.disk image ⊎ SameButCaches m.disk.published image → HasRunAndCaches s.disk.published number run image
  behind s m kept image (inl left) = with_caches s.disk.published image (kept.lasts image left)
  behind s m kept image (inr same) = record { between = m.disk.published; beside = kept_beside number run s m kept; but = same }

  -- the run alone
  sound_run : (s t : Folder) → IsCalm s → PassesRun number run s t → KeepsSound s t
  sound_run s t calm passes sound = passes_weaker (λ image. IsImage s.disk image ⊎ HasRunBeside s.disk.published number run image) IsSound by s t passes
    where
      by : (image : Files) → IsImage s.disk image ⊎ HasRunBeside s.disk.published number run image → IsSound image
      by image (inl left) = sound image left
      by image (inr beside) = sound_beside s.disk.published image number run beside calm.repository (sound s.disk.published (calm_counts s calm))

  -- reads give the files as they were, or these with the run beside them
  repository_named : (s t : Folder) → IsCalm s → PassesRun number run s t → IsImage t.disk t.disk.published → IsRepository t.disk.published
  repository_named s t calm passes reads = by (passes_leaves (λ image. IsImage s.disk image ⊎ HasRunBeside s.disk.published number run image) s t passes (λ image left. inl left) t.disk.published reads)
    where
      by : IsImage s.disk t.disk.published ⊎ HasRunBeside s.disk.published number run t.disk.published → IsRepository t.disk.published
      by (inl left) = subst IsRepository (sym (calm.only t.disk.published left)) calm.repository
      by (inr beside) = beside.repository

  pub named_all : (s t : Folder) → IsCalm s → PassesRun number run s t → IsImage t.disk t.disk.published → PassesAll number run s t
  named_all s t calm passes reads = record {
    stops = passes_weaker (λ image. IsImage s.disk image ⊎ HasRunBeside s.disk.published number run image) (Left s) (left_by s) s t passes;
    sound = sound_run s t calm passes;
    repository = repository_named s t calm passes reads;
  }

  pub rests_all : (s t : Folder) → IsCalm s → KeepsReads s t → PassesAll number run s t
  rests_all s t calm rests = record {
    stops = passes_weaker (IsImage s.disk) (Left s) (λ image left. inl left) s t rests.old;
    sound = rests_sound s t rests;
    repository = subst IsRepository (sym rests.files) calm.repository;
  }

  -- the rows of the run's bytes are those of the last run
  rows_at : (rows : List Row) (s m : Folder) → AreRowsOf run.bytes rows → IsCalm s → KeepsRun number run s m → HasRowsAt number rows m
  rows_at rows s m are calm kept =
      let before = shown s.disk.published calm.repository in
      let beside = kept_beside number run s m kept in
      let after : Shows m.disk.published (before.0 ++ run ∷ []) = beside.shows before.0 before.1 in
      let count : number ≡ length before.0 = beside.counts before.0 before.1 in
      let few : number < most_runs = omega (arith, count, after.few, length-append before.0 (run ∷ [])) in
      let there : run_at m.disk.published number ≡ Some run = after.each number few ∙ ap (λ (n : ℕ). slice_get (before.0 ++ run ∷ []) n) count ∙ last_item before.0 run in
      subst (λ (o : Option Run). IsSomeAnd o (λ r. AreRowsOf r.bytes rows)) (sym there) are

  -- and the base does not count it
  new_at : (rows : List Row) (s m : Folder) → AreRowsOf run.bytes rows → IsCalm s → KeepsRun number run s m → HasNewRows number rows m
  new_at rows s m are calm kept =
      let before = shown s.disk.published calm.repository in
      let beside = kept_beside number run s m kept in
      let after : Shows m.disk.published (before.0 ++ run ∷ []) = beside.shows before.0 before.1 in
      let count : number ≡ length before.0 = beside.counts before.0 before.1 in
      let few : number < most_runs = omega (arith, count, after.few, length-append before.0 (run ∷ [])) in
      let base : base_of m.disk.published ≡ base_of s.disk.published = ap base_of beside.is ∙ base_beside_run s.disk.published number run few in
      record {
        are = rows_at rows s m are calm kept;
        behind = omega (arith, count, base_behind s.disk.published before.0 calm.repository before.1, ap (λ (b : Base). b.count) base);
      }

  -- the run, and what the step of the caches did
  refreshed_all : (rows : List Row) (s m t : Folder) → AreRowsOf run.bytes rows → IsCalm s → KeepsRun number run s m → PassesRun number run s m → KeepsButCaches m t → PassesButCaches m t → (HasNewRows number rows m → KeepsSound m t) → PassesAll number run s t
  refreshed_all rows s m t are calm kept passes but sides sound =
      let beside = kept_beside number run s m kept in
      let run_stops = passes_weaker (λ image. IsImage s.disk image ⊎ HasRunBeside s.disk.published number run image) (Left s) (left_by s) s m passes in
      record {
        stops = passes_then (Left s) s m t run_stops (passes_weaker (λ image. IsImage m.disk image ⊎ SameButCaches m.disk.published image) (Left s) (λ image left. inr (behind s m kept image left)) m t sides);
        sound = sound_then s m t (sound_run s m calm passes) (sound (new_at rows s m are calm kept));
        repository = repository_still m.disk.published t.disk.published but beside.repository;
      }

  cached : (rows : List Row) (s m t : Folder) → AreRowsOf run.bytes rows → KeepsRun number run s m → KeepsButCaches m t → PassesButCaches m t → (HasNewRows number rows m → ReadsSound m → PutsCaches m t) → KeepsRunAndCaches number run s t
  cached rows s m t are kept but sides has = record {
    reads = behind s m kept t.disk.published (inr but);
    lasts = λ image left. behind s m kept image (passes_leaves (λ i. IsImage m.disk i ⊎ SameButCaches m.disk.published i) m t sides (λ i before. inl before) image left);
    fresh = λ calm sound.
        holds m t but (has (new_at rows s m are calm kept) (sound_beside s.disk.published m.disk.published number run (kept_beside number run s m kept) calm.repository sound));
  }

  -- ---- where the folder is told

  module _ (a b : Option Folder) where
    pub goes_named : IfSome a IsCalm → IfSome b (λ t. IsImage t.disk t.disk.published) → Goes a b (PassesRun number run) → Goes a b (PassesAll number run)
    goes_named calm reads passes = by a b calm reads passes
      where
        by : (a b : Option Folder) → IfSome a IsCalm → IfSome b (λ t. IsImage t.disk t.disk.published) → Goes a b (PassesRun number run) → Goes a b (PassesAll number run)
        by None None calm reads passes = tt
        by None (Some t) calm reads passes = absurd passes
        by (Some s) None calm reads passes = absurd passes
        by (Some s) (Some t) calm reads passes = named_all s t calm passes reads

    pub goes_rested : IfSome a IsCalm → Goes a b KeepsReads → Goes a b (PassesAll number run)
    goes_rested calm quiet = goes_from a b IsCalm KeepsReads (PassesAll number run) calm quiet rests_all

  module _ (rows : List Row) (a : Option Folder) (b c : Seen Folder) (result : Result (Unit {0}) TellFault) (step : Refreshes number rows b c result) where
    pub goes_refreshed : AreRowsOf run.bytes rows → IfSome a IsCalm → Goes a b.told (KeepsRun number run) → Goes a b.told (PassesRun number run) → Goes a c.told (PassesAll number run)
    goes_refreshed are calm kept passes =
        let before : Goes a b.told (λ s m. IsCalm s × KeepsRun number run s m × PassesRun number run s m) =
        goes_from a b.told IsCalm (λ s m. KeepsRun number run s m × PassesRun number run s m) (λ s m. IsCalm s × KeepsRun number run s m × PassesRun number run s m) calm
        (goes_both a b.told (KeepsRun number run) (PassesRun number run) (λ s m. KeepsRun number run s m × PassesRun number run s m) kept passes (λ s m k p. (k, p))) (λ s m is both. (is, both.0, both.1)) in
        let others : Goes b.told c.told (λ m t. KeepsButCaches m t × PassesButCaches m t) = goes_both b.told c.told KeepsButCaches PassesButCaches (λ m t. KeepsButCaches m t × PassesButCaches m t) step.others step.any_moment (λ m t p q. (p, q)) in
        let after : Goes b.told c.told (λ m t. (KeepsButCaches m t × PassesButCaches m t) × (HasNewRows number rows m → KeepsSound m t)) =
        goes_both b.told c.told (λ m t. KeepsButCaches m t × PassesButCaches m t) (λ m t. HasNewRows number rows m → KeepsSound m t) (λ m t. (KeepsButCaches m t × PassesButCaches m t) × (HasNewRows number rows m → KeepsSound m t)) others step.sound (λ m t p q. (p, q)) in
        goes_then a b.told c.told (λ s m. IsCalm s × KeepsRun number run s m × PassesRun number run s m) (λ m t. (KeepsButCaches m t × PassesButCaches m t) × (HasNewRows number rows m → KeepsSound m t)) (PassesAll number run) before after (λ s m t first second. refreshed_all rows s m t are first.0 first.1 first.2 second.0.0 second.0.1 second.1)

  pub goes_cached : (rows : List Row) (a : Option Folder) (b c : Seen Folder) → Refreshes number rows b c (Ok tt) → AreRowsOf run.bytes rows → Goes a b.told (KeepsRun number run) → Goes a c.told (KeepsRunAndCaches number run)
  goes_cached rows a b c step are kept =
      let others : Goes b.told c.told (λ m t. KeepsButCaches m t × PassesButCaches m t) = goes_both b.told c.told KeepsButCaches PassesButCaches (λ m t. KeepsButCaches m t × PassesButCaches m t) step.others step.any_moment (λ m t p q. (p, q)) in
      let after : Goes b.told c.told (λ m t. (KeepsButCaches m t × PassesButCaches m t) × (HasNewRows number rows m → ReadsSound m → PutsCaches m t)) =
      goes_both b.told c.told (λ m t. KeepsButCaches m t × PassesButCaches m t) (λ m t. HasNewRows number rows m → ReadsSound m → PutsCaches m t) (λ m t. (KeepsButCaches m t × PassesButCaches m t) × (HasNewRows number rows m → ReadsSound m → PutsCaches m t)) others step.refreshed (λ m t p q. (p, q)) in
      goes_then a b.told c.told (KeepsRun number run) (λ m t. (KeepsButCaches m t × PassesButCaches m t) × (HasNewRows number rows m → ReadsSound m → PutsCaches m t)) (KeepsRunAndCaches number run) kept after (λ s m t first second. cached rows s m t are first second.0.0 second.0.1 second.1)

  -- a quiet part before it
  pub fresh_through : (a b c : Option Folder) → Goes a b KeepsReads → IfSome b IsCalm → Goes b c (KeepsRunAndCaches number run) → Goes a c BringsCaches
  fresh_through a b c quiet calm kept =
      goes_then a b c KeepsReads BringsCaches BringsCaches quiet
      (goes_from b c IsCalm (KeepsRunAndCaches number run) BringsCaches calm kept (λ s t is keeps. keeps.fresh is))
      (λ s m t rests fresh sound. fresh (subst IsSound (sym rests.files) sound))

pub shows_more : (files image : Files) (number : ℕ) (run : Run) (runs : List Run) → HasRunAndCaches files number run image → Shows files runs → Shows image (runs ++ run ∷ [])
shows_more files image number run runs has shows = shows_still has.between image has.but (runs ++ run ∷ []) (has.beside.shows runs shows)

pub adds_run : (partial : Bool) (number : ℕ) (events : List Event) (s t : Folder) → KeepsRunAndCaches number (run_of partial (run_bytes events)) s t → AddsRun partial events s t
adds_run partial number events s t kept runs shows =
    let run = run_of partial (run_bytes events) in
    (shows_more s.disk.published t.disk.published number run runs kept.reads shows, λ image left. shows_more s.disk.published image number run runs (kept.lasts image left) shows)

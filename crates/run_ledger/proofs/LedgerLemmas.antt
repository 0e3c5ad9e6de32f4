-- What the runs of a repository say, run by run.
use Rattle.std.proofs.Common.{◌≡◌, ◌⊎◌, inl, inr, true, false, true≢false, ℕ, zero, suc, ◌+◌, ◌<◌, ◌≤◌, Bool, List, [], ◌∷◌, ◌++◌, Option, Some, None, IfSome, IfOk, Result, Ok, Err, IsSomeAnd, take, drop, length, refl, sym, ap, ◌∙◌, subst, arith}
use Rattle.std.specs.Prelude.{slice_get}
use Rattle.std.specs.Option.{option_map}
use Rattle.std.proofs.lemmas.Bool.{cases_lt, lt-ltb}
use Rattle.std.proofs.lemmas.List.{take_all, length-map, drop-append-le, drop_all, length-take-le}
use Rattle.edge_io.specs.Disk.{Files, Folder}
use Rattle.edge_io.specs.Steps.{Goes, Stays}
use Rattle.std.specs.FinMap as fin
use Rattle.std.specs.FinMap.{FinMap}
use Rattle.outcome_fold.specs.declared.row.Row.{Row}
use Rattle.outcome_fold.specs.Order.{text_cmp}
use Rattle.outcome_fold.specs.Answers.{times_of}
use Rattle.run_shelf.specs.Holds.{FitsFolder}
use Rattle.run_shelf.specs.Bases.{Base}
use Rattle.run_shelf.specs.Repository.{Run, run_of_files, run_at, full_name, partial_name, most_runs, HasKinds, IsRepository, base_of}
use Rattle.run_shelf.proofs.ShowsLemmas.{shown, kinds_of_runs}
use Rattle.run_ledger.specs.Reading.{AreRowsOf}
use Rattle.run_shelf.proofs.RunLemmas.{past_items, within_base}
use Rattle.run_ledger.specs.SoFar.{ShowRowsTo, SaysTo, CountsUpTo, FailsBehind, FailsTo}
use Rattle.run_ledger.specs.Ledger.{RunRows, IsRunRows, AreRunRows, ShowRows, HasRowsAt, failing_behind, failing_from, failing_after, IsFailingSet, replaced, times_from, times_after}
use Rattle.run_ledger.proofs.ExistLemmas.{some_each}

pub says_none : {X : Type 0} (says : List RunRows → X) (state : Option Folder) (kinds : List Bool) (count : ℕ) (x : X) → count ≡ 0 → x ≡ says [] → IfSome state (FitsFolder kinds) → IfSome state (SaysTo says count x)
says_none says None kinds count x begin is fits = tt
says_none says (Some s) kinds count x begin is fits =
    let all = shown s.disk.published fits.repository in
    ([], record { runs = all.0; shown = all.1; are = subst (λ (n : ℕ). AreRunRows (take n all.0) []) (sym begin) tt }, is)

take_one_more : (runs : List Run) (n : ℕ) (run : Run) → slice_get runs n ≡ Some run → take (suc n) runs ≡ take n runs ++ run ∷ []
take_one_more [] n run is = cc
take_one_more (r ∷ runs) zero run is = let same : r ≡ run = cc in ap (λ x. x ∷ []) same
take_one_more (r ∷ runs) (suc n) run is = ap (λ l. r ∷ l) (take_one_more runs n run is)

rows_behind : (runs : List Run) (entries : List RunRows) (run : Run) (entry : RunRows) → AreRunRows runs entries → IsRunRows run entry → AreRunRows (runs ++ run ∷ []) (entries ++ entry ∷ [])
rows_behind [] [] run entry are one = (one, tt)
rows_behind [] (e ∷ entries) run entry are one = absurd are
rows_behind (r ∷ runs) [] run entry are one = absurd are
rows_behind (r ∷ runs) (e ∷ entries) run entry are one = (are.0, rows_behind runs entries run entry are.1 one)

-- a number below has a kind
pub kind_below : (kinds : List Bool) (n : ℕ) → n < length kinds → (partial : Bool) × (slice_get kinds n ≡ Some partial)
kind_below [] n below = absurd (omega arith)
kind_below (kind ∷ kinds) zero below = (kind, refl)
kind_below (kind ∷ kinds) (suc n) below = kind_below kinds n (omega arith)

-- the run of a number
found_at : (o : Option Run) (partial : Bool) (rows : List Row) → option_map (λ run. run.partial) o ≡ Some partial → IsSomeAnd o (λ run. AreRowsOf run.bytes rows)
    → (run : Run) × (o ≡ Some run) × IsRunRows run (record { partial = partial; rows = rows })
found_at None partial rows kind are = absurd are
found_at (Some run) partial rows kind are = let same : run.partial ≡ partial = cc in (run, refl, record { kind = sym same; rows = are })

module _ (files : Files) (kinds : List Bool) (has : HasKinds files kinds) where
  -- one run more
  rows_more : (count : ℕ) (partial : Bool) (entries : List RunRows) (rows : List Row) → count < length kinds → slice_get kinds count ≡ Some partial
      → IsSomeAnd (run_at files count) (λ run. AreRowsOf run.bytes rows) → ShowRowsTo files count entries
      → ShowRowsTo files (suc count) (entries ++ record { partial = partial; rows = rows } ∷ [])
  rows_more count partial entries rows below kind are so_far =
      let few : count < most_runs = omega (arith, has.few) in
      let run = found_at (run_at files count) partial rows (has.each count few ∙ kind) are in
      record {
        runs = so_far.runs;
        shown = so_far.shown;
        are = subst (λ (l : List Run). AreRunRows l (entries ++ record { partial = partial; rows = rows } ∷ []))
            (sym (take_one_more so_far.runs count run.0 (sym (so_far.shown.each count few) ∙ run.1)))
            (rows_behind (take count so_far.runs) entries run.0 (record { partial = partial; rows = rows }) so_far.are run.2);
      }

  -- all runs
  rows_all : (count : ℕ) (entries : List RunRows) → length kinds ≤ count → ShowRowsTo files count entries → ShowRows files entries
  rows_all count entries past so_far =
      let size : length kinds ≡ length so_far.runs = ap length (kinds_of_runs files so_far.runs kinds so_far.shown has) ∙ length-map so_far.runs (λ (run : Run). run.partial) in
      record {
        runs = so_far.runs;
        shown = so_far.shown;
        are = subst (λ (l : List Run). AreRunRows l entries) (take_all count so_far.runs (omega (arith, size, past))) so_far.are;
      }

module _ {X : Type 0} (says : List RunRows → X) (step : X → RunRows → X) (folds : (entries : List RunRows) (entry : RunRows) → says (entries ++ entry ∷ []) ≡ step (says entries) entry) where
  -- one run more
  pub says_more : (first before : Option Folder) (kinds kinds_now : List Bool) (count next : ℕ) (partial : Bool) (rows : List Row) (old new : X)
      → next ≡ count + 1 → count < length kinds → kinds_now ≡ kinds → slice_get kinds_now count ≡ Some partial
      → IfSome first (FitsFolder kinds) → Goes first before Stays → IfSome before (HasRowsAt count rows) → new ≡ step old (record { partial = partial; rows = rows })
      → IfSome first (SaysTo says count old) → IfSome first (SaysTo says next new)
  says_more None before kinds kinds_now count next partial rows old new is below same_kinds kind fits same are new-is so_far = tt
  says_more (Some s) None kinds kinds_now count next partial rows old new is below same_kinds kind fits same are new-is so_far = absurd same
  says_more (Some s) (Some t) kinds kinds_now count next partial rows old new is below same_kinds kind fits same are new-is so_far =
      let entry : RunRows = record { partial = partial; rows = rows } in
      let here : HasRowsAt count rows s = subst (HasRowsAt count rows) same are in
      let kind_is : slice_get kinds count ≡ Some partial = subst (λ (l : List Bool). slice_get l count ≡ Some partial) same_kinds kind in
      let one_more : next ≡ suc count = omega (arith, is) in (
        so_far.0 ++ entry ∷ [],
        subst (λ (n : ℕ). ShowRowsTo s.disk.published n (so_far.0 ++ entry ∷ [])) (sym one_more) (rows_more s.disk.published kinds fits.kinds_are count partial so_far.0 rows below kind_is here so_far.1),
        new-is ∙ ap (λ x. step x entry) so_far.2 ∙ sym (folds so_far.0 entry),
      )

-- another name of the number
pub says_at : {X : Type 0} (says : List RunRows → X) (state : Option Folder) (count end : ℕ) (x : X) → count ≡ end → IfSome state (SaysTo says count x) → IfSome state (SaysTo says end x)
says_at says state count end x same so_far = subst (λ (n : ℕ). IfSome state (SaysTo says n x)) same so_far

-- all runs
pub says_all : {X : Type 0} (says : List RunRows → X) (state : Option Folder) (kinds : List Bool) (count : ℕ) (x : X) → length kinds ≤ count → IfSome state (FitsFolder kinds)
    → IfSome state (SaysTo says count x) → IfSome state (λ s. (entries : List RunRows) × ShowRows s.disk.published entries × (x ≡ says entries))
says_all says None kinds count x past fits so_far = tt
says_all says (Some s) kinds count x past fits so_far = (so_far.0, rows_all s.disk.published kinds fits.kinds_are count so_far.0 past so_far.1, so_far.2)

failing_more : (earlier : List (List ℕ)) (entries : List RunRows) (entry : RunRows) → failing_from earlier (entries ++ entry ∷ []) ≡ failing_behind (failing_from earlier entries) entry
failing_more earlier [] entry = refl
failing_more earlier (e ∷ entries) entry = failing_more (failing_behind earlier e) entries entry

-- a run that the base does not count
pub failing_folds : (base : Base) (entries : List RunRows) (entry : RunRows) → base.count ≤ length entries → failing_after base (entries ++ entry ∷ []) ≡ failing_behind (failing_after base entries) entry
failing_folds base entries entry behind = ap (failing_from base.ids) (drop-append-le base.count entries (entry ∷ []) behind) ∙ failing_more base.ids (drop base.count entries) entry

-- the runs that the base counts say nothing
failing_base : (base : Base) (entries : List RunRows) → length entries ≤ base.count → failing_after base entries ≡ base.ids
failing_base base entries within = ap (failing_from base.ids) (drop_all base.count entries within)

-- how many rows there are
as_many : (runs : List Run) (entries : List RunRows) → AreRunRows runs entries → length entries ≡ length runs
as_many [] [] are = refl
as_many [] (e ∷ entries) are = absurd are
as_many (r ∷ runs) [] are = absurd are
as_many (r ∷ runs) (e ∷ entries) are = omega (arith, as_many runs entries are.1)

-- a full run is none that the base counts
old_partial : (full partial : Option (List ℕ)) → option_map (λ (r : Run). r.partial) (run_of_files true full partial) ≡ Some false → ⊥
old_partial full None is = cc
old_partial full (Some bytes) is = cc

pub full_behind : (files : Files) (kinds : List Bool) (number : ℕ) → HasKinds files kinds → number < most_runs → slice_get kinds number ≡ Some false → (base_of files).count ≤ number
full_behind files kinds number has few full = elim (cases_lt number (base_of files).count) [
  | inl counted ↦
      absurd (old_partial (files (full_name number)) (files (partial_name number))
      (subst (λ b. option_map (λ (r : Run). r.partial) (run_of_files b (files (full_name number)) (files (partial_name number))) ≡ Some false) (lt-ltb number (base_of files).count counted) (has.each number few ∙ full)))
  | inr behind ↦ behind
]

module _ (files : Files) (kinds : List Bool) (has : HasKinds files kinds) where
  -- so many runs have so many rows
  pub rows_count : (count : ℕ) (entries : List RunRows) → count ≤ length kinds → ShowRowsTo files count entries → length entries ≡ count
  rows_count count entries within so_far =
      let size : length kinds ≡ length so_far.runs = ap length (kinds_of_runs files so_far.runs kinds so_far.shown has) ∙ length-map so_far.runs (λ (run : Run). run.partial) in
      as_many (take count so_far.runs) entries so_far.are ∙ length-take-le count so_far.runs (omega (arith, size, within))

  -- the ids of the base, before any run that it does not count
  pub begin_behind : (ids : List (List ℕ)) → IsRepository files → (base_of files).count ≤ length kinds → ids ≡ (base_of files).ids
      → (entries : List RunRows) × ShowRowsTo files (base_of files).count entries × FailsBehind (base_of files).count ids entries files
  begin_behind ids repository within is =
      let all = shown files repository in
      let entries = some_each (take (base_of files).count all.0) in
      let shows : ShowRowsTo files (base_of files).count entries.0 = record { runs = all.0; shown = all.1; are = entries.1 } in (
        entries.0,
        shows,
        record { behind = omega arith; are = is ∙ sym (failing_base (base_of files) entries.0 (omega (arith, rows_count (base_of files).count entries.0 within shows))) },
      )

-- at the last full run
pub fails_full : (state : Option Folder) (kinds : List Bool) (count : ℕ) (ids : List (List ℕ)) → slice_get kinds count ≡ Some false → IfSome state (FitsFolder kinds) → IfSome state (FailsTo kinds count ids)
fails_full None kinds count ids full fits = tt
fails_full (Some s) kinds count ids full fits =
    let all = shown s.disk.published fits.repository in
    let entries = some_each (take count all.0) in
    (entries.0, record { runs = all.0; shown = all.1; are = entries.1 }, inr full)

-- at the first run that the base does not count
pub fails_base : (state : Option Folder) (kinds : List Bool) (count : ℕ) (ids : List (List ℕ)) → IfSome state (λ s. count ≡ (base_of s.disk.published).count) → IfSome state (λ s. ids ≡ (base_of s.disk.published).ids)
    → IfSome state (FitsFolder kinds) → IfSome state (FailsTo kinds count ids)
fails_base None kinds count ids counted is fits = tt
fails_base (Some s) kinds count ids counted is fits =
    let all = begin_behind s.disk.published kinds fits.kinds_are ids fits.repository (within_base kinds s fits) is in
    subst (λ (n : ℕ). FailsTo kinds n ids s) (sym counted) (all.0, all.1, inl all.2)

full_replaces : (partial : Bool) (rows : List Row) (ids others : List (List ℕ)) → partial ≡ false → failing_behind ids (record { partial = partial; rows = rows }) ≡ failing_behind others (record { partial = partial; rows = rows })
full_replaces true rows ids others full = absurd (true≢false full)
full_replaces false rows ids others full = refl

-- one run more
module _ (files : Files) (kinds : List Bool) (has : HasKinds files kinds) (count : ℕ) (below : count < length kinds) (partial : Bool) (rows : List Row) (kind : slice_get kinds count ≡ Some partial) where
  abbrev entry : RunRows
  entry = record { partial = partial; rows = rows }

  failing_next : (entries : List RunRows) (old new : List (List ℕ)) → ShowRowsTo files count entries → new ≡ failing_behind old entry → FailsBehind count old entries files ⊎ (slice_get kinds count ≡ Some false)
      → FailsBehind (suc count) new (entries ++ entry ∷ []) files
  failing_next entries old new so_far new-is (inl known) = record {
    behind = omega (arith, known.behind);
    are = new-is ∙ ap (λ ids. failing_behind ids entry) known.are
        ∙ sym (failing_folds (base_of files) entries entry (omega (arith, known.behind, rows_count files kinds has count entries (omega (arith, below)) so_far)));
  }
  failing_next entries old new so_far new-is (inr full) =
      let is : partial ≡ false = cc in
      let behind : (base_of files).count ≤ count = full_behind files kinds count has (omega (arith, below, has.few)) full in
      record {
        behind = omega (arith, behind);
        are = new-is ∙ full_replaces partial rows old (failing_after (base_of files) entries) is
            ∙ sym (failing_folds (base_of files) entries entry (omega (arith, behind, rows_count files kinds has count entries (omega (arith, below)) so_far)));
      }

pub fails_more : (first before : Option Folder) (kinds kinds_now : List Bool) (count next : ℕ) (partial : Bool) (rows : List Row) (old new : List (List ℕ))
    → next ≡ count + 1 → count < length kinds → kinds_now ≡ kinds → slice_get kinds_now count ≡ Some partial
    → IfSome first (FitsFolder kinds) → Goes first before Stays → IfSome before (HasRowsAt count rows) → new ≡ failing_behind old (record { partial = partial; rows = rows })
    → IfSome first (FailsTo kinds count old) → IfSome first (FailsTo kinds next new)
fails_more None before kinds kinds_now count next partial rows old new is below same_kinds kind fits same are new-is so_far = tt
fails_more (Some s) None kinds kinds_now count next partial rows old new is below same_kinds kind fits same are new-is so_far = absurd same
fails_more (Some s) (Some t) kinds kinds_now count next partial rows old new is below same_kinds kind fits same are new-is so_far =
    let here : HasRowsAt count rows s = subst (HasRowsAt count rows) same are in
    let kind_is : slice_get kinds count ≡ Some partial = subst (λ (l : List Bool). slice_get l count ≡ Some partial) same_kinds kind in
    let one_more : next ≡ suc count = omega (arith, is) in
    subst (λ (n : ℕ). FailsTo kinds n new s) (sym one_more) (
      so_far.0 ++ record { partial = partial; rows = rows } ∷ [],
      rows_more s.disk.published kinds fits.kinds_are count partial so_far.0 rows below kind_is here so_far.1,
      inl (failing_next s.disk.published kinds fits.kinds_are count below partial rows kind_is so_far.0 old new so_far.1 new-is so_far.2),
    )

-- another name of the number
pub fails_at : (state : Option Folder) (kinds : List Bool) (count end : ℕ) (ids : List (List ℕ)) → count ≡ end → IfSome state (FailsTo kinds count ids) → IfSome state (FailsTo kinds end ids)
fails_at state kinds count end ids same so_far = subst (λ (n : ℕ). IfSome state (FailsTo kinds n ids)) same so_far

-- the base counts no more runs than there are
pub counts_all : (state : Option Folder) (kinds : List Bool) (count : ℕ) → length kinds ≤ count → IfSome state (FitsFolder kinds) → IfSome state (CountsUpTo count)
counts_all None kinds count past fits = tt
counts_all (Some s) kinds count past fits = omega (arith, within_base kinds s fits, past)

-- a premise before the answer, or after it
pub when_counted : {X E : Type 0} (r : Result X E) (C : Type 0) (P : X → Type 0) → (C → IfOk r P) → IfOk r (λ x. C → P x)
when_counted (Ok x) C P when = when
when_counted (Err e) C P when = tt

-- all runs
pub fails_all : (state : Option Folder) (kinds : List Bool) (count : ℕ) (ids : List (List ℕ)) → length kinds ≤ count → IfSome state (FitsFolder kinds) → IfSome state (FailsTo kinds count ids) → IfSome state (IsFailingSet ids)
fails_all None kinds count ids past fits so_far = tt
fails_all (Some s) kinds count ids past fits so_far = elim so_far.2 [
  | inl known ↦ (so_far.0, rows_all s.disk.published kinds fits.kinds_are count so_far.0 past so_far.1, known.are)
  | inr full ↦ absurd (let none : slice_get kinds count ≡ None = past_items kinds count past in cc)
]

times_more : (earlier : FinMap text_cmp ℕ) (entries : List RunRows) (entry : RunRows) → times_from earlier (entries ++ entry ∷ []) ≡ replaced (times_from earlier entries) (times_of entry.rows)
times_more earlier [] entry = refl
times_more earlier (e ∷ entries) entry = times_more (replaced earlier (times_of e.rows)) entries entry

pub times_folds : (entries : List RunRows) (entry : RunRows) → times_after (entries ++ entry ∷ []) ≡ replaced (times_after entries) (times_of entry.rows)
times_folds entries entry = times_more fin.empty entries entry

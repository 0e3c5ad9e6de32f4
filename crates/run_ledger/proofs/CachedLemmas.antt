-- What is told with the help of a cache.
use Rattle.std.proofs.Common.{◌≡◌, ◌⊎◌, inl, inr, ℕ, zero, suc, ◌+◌, ◌<◌, ◌≤◌, min, Bool, true, false, true≢false, List, [], ◌∷◌, ◌++◌, take, length, Option, Some, None, IfSome, IsSome, IsErrAnd, Result, Ok, Err, refl, sym, ap, ◌∙◌, subst, arith}
use Rattle.std.specs.Prelude.{slice_get, IfNone}
use Rattle.std.specs.Option.{option_map}
use Rattle.std.specs.FinMap.{FinMap}
use Rattle.std.specs.Result.{is_err}
use Rattle.std.specs.List.Sorted.{IsStrictlySortedBy}
use Rattle.std.proofs.lemmas.Bool.{cases_lt}
use Rattle.edge_io.specs.Disk.{Folder}
use Rattle.outcome_fold.specs.Order.{text_cmp, in_byte_order}
use Rattle.outcome_fold.proofs.SetLemmas.{ordered_already}
use Rattle.run_shelf.specs.declared.faults.ShelfCall.{ShelfCall}
use Rattle.run_shelf.specs.declared.faults.StoreFault.{StoreFault}
use Rattle.run_shelf.specs.declared.faults.StoreFault.TheVariants.{Shelf, Closed}
use Rattle.run_shelf.specs.declared.faults.CacheFileFault.{CacheFileFault}
use Rattle.run_shelf.specs.declared.faults.CacheFileFault.TheVariants as side_fault
use Rattle.run_shelf.specs.declared.cache_file.CacheFile.TheVariants.{Failing, Times}
use Rattle.run_shelf.specs.declared.base_set.Base.{Base as ABase}
use Rattle.run_shelf.specs.Bases.{Base}
use Rattle.run_shelf.specs.Looking.{ReadsBase}
use Rattle.run_shelf.specs.Holds.{FitsFolder}
use Rattle.run_shelf.specs.Repository.{Run, run_at, most_runs, Shows, base_of}
use Rattle.run_shelf.specs.Sides.{HoldsCacheFile, CacheFileCloses, CacheFileReads, fault_after_cache_file}
use Rattle.run_shelf.specs.Stores.{StoreSeen, Reads}
use Rattle.run_shelf.proofs.BaseLemmas.{base_sorted}
use Rattle.run_shelf.proofs.ReadingLemmas.{StaysOpen, reads_as}
use Rattle.run_shelf.proofs.RunLemmas.{past_items, within_items, none_is_not_some}
use Rattle.run_shelf.proofs.ShowsLemmas.{shown}
use Rattle.run_ledger.specs.declared.fault.LedgerFault.{LedgerFault}
use Rattle.run_ledger.specs.declared.fault.LedgerFault.TheVariants.{Store, NoMemory}
use Rattle.run_ledger.specs.Outcomes.{LedgerCloses, LedgerReads, closed_by}
use Rattle.run_ledger.specs.Cached.{ledger_fault, ReadsSound, HoldsFailing, HoldsNoFailing, HoldsTimes, HoldsNoTimes, Spares, SaysItsFailing, SaysItsTimes}
use Rattle.run_ledger.specs.Caches.{IsFailingCache, IsTimesCache, SaidOfFirst, FailingOfFirst}
use Rattle.run_ledger.specs.Costs.{ReadsTo, ReadsBehindCache, ReadsBehindCacheTo}
use Rattle.run_ledger.specs.Ledger.{RunRows, AreRunRows, failing_after, times_after}
use Rattle.run_ledger.specs.Starts.{IsStart, IsLastFull, AreAllPartial}
use Rattle.run_ledger.proofs.CacheLemmas.{one_failing}
use Rattle.run_ledger.proofs.CostLemmas.{asked_less}
use Rattle.run_ledger.proofs.TimedLemmas.{one_times}
use Rattle.run_ledger.specs.SoFar.{SaysTo, CountsUpTo, FailsTo}

-- ---- the faults of a file of a cache are handed on

abbrev side_refusal : (T : Type 0) → CacheFileFault → Result T CacheFileFault
side_refusal T e = Err e

abbrev refusal : (T : Type 0) → LedgerFault → Result T LedgerFault
refusal T e = Err e

side_item : (T : Type 0) (a b : StoreFault) → side_refusal T (side_fault.Store a) ≡ side_refusal T (side_fault.Store b) → a ≡ b
side_item T a b e = cc

store_item : (T : Type 0) (a b : StoreFault) → refusal T (Store a) ≡ refusal T (Store b) → a ≡ b
store_item T a b e = cc

side_none : (T : Type 0) (a : StoreFault) → side_refusal T side_fault.NoMemory ≡ side_refusal T (side_fault.Store a) → ⊥
side_none T a e = cc

store_none : (T : Type 0) (a : StoreFault) → refusal T NoMemory ≡ refusal T (Store a) → ⊥
store_none T a e = cc

kept_by : (T U : Type 0) (before : Option ShelfCall) (e : CacheFileFault) → fault_after_cache_file before (side_refusal T e) ≡ closed_by before (refusal U (ledger_fault e))
kept_by T U before (side_fault.Store (Shelf call)) = refl
kept_by T U before (side_fault.Store (Closed call)) = refl
kept_by T U before side_fault.NoMemory = refl

closed_as : (T U : Type 0) (before after : Option ShelfCall) (e : CacheFileFault) → CacheFileCloses before after (side_refusal T e) → (call : ShelfCall)
    → (refusal U (ledger_fault e) ≡ refusal U (Store (Closed call)) → before ≡ Some call) × (before ≡ Some call → refusal U (ledger_fault e) ≡ refusal U (Store (Closed call)))
closed_as T U before after (side_fault.Store f) closes call = (
  λ told. (closes.closed call).0 (ap (λ g. side_refusal T (side_fault.Store g)) (store_item U f (Closed call) told)),
  λ told. ap (λ g. refusal U (Store g)) (side_item T f (Closed call) ((closes.closed call).1 told)),
)
closed_as T U before after side_fault.NoMemory closes call = (
  λ told. absurd (store_none U (Closed call) told),
  λ told. absurd (side_none T (Closed call) ((closes.closed call).1 told)),
)

closes_as : (T U : Type 0) (before after : Option ShelfCall) (e : CacheFileFault) → CacheFileCloses before after (side_refusal T e) → LedgerCloses before after (refusal U (ledger_fault e))
closes_as T U before after e closes = record { closed = closed_as T U before after e closes; kept = closes.kept ∙ kept_by T U before e }

ok_is_no_err : {T E : Type 0} (x : T) (e : E) → Ok x ≡ Err e → ⊥
ok_is_no_err x e is = true≢false (sym (ap is_err is))

open_at_found : {T : Type 0} (before after : Option ShelfCall) (x : T) → CacheFileCloses before after (Ok x) → before ≡ None
open_at_found None after x closes = refl
open_at_found (Some call) after x closes = absurd (ok_is_no_err x (side_fault.Store (Closed call)) ((closes.closed call).1 refl))

module _ (a b : StoreSeen) where
  pub found_reading : {T : Type 0} (x : T) → CacheFileReads a b (Ok x) → Reads a b StaysOpen false
  found_reading x reads = reads_as a b (λ p q. CacheFileCloses p q (Ok x)) StaysOpen false (λ closes. (open_at_found _ _ x closes, closes.kept)) reads

  handed_on : {T U : Type 0} (e : CacheFileFault) → CacheFileReads a b (side_refusal T e) → LedgerReads a b (refusal U (ledger_fault e))
  handed_on {T = T} {U = U} (side_fault.Store (Shelf call)) reads =
      reads_as a b (λ p q. CacheFileCloses p q (side_refusal T (side_fault.Store (Shelf call)))) (λ p q. LedgerCloses p q (refusal U (Store (Shelf call)))) true (closes_as T U _ _ (side_fault.Store (Shelf call))) reads
  handed_on {T = T} {U = U} (side_fault.Store (Closed call)) reads =
      reads_as a b (λ p q. CacheFileCloses p q (side_refusal T (side_fault.Store (Closed call)))) (λ p q. LedgerCloses p q (refusal U (Store (Closed call)))) false (closes_as T U _ _ (side_fault.Store (Closed call))) reads
  handed_on {T = T} {U = U} side_fault.NoMemory reads =
      reads_as a b (λ p q. CacheFileCloses p q (side_refusal T side_fault.NoMemory)) (λ p q. LedgerCloses p q (refusal U NoMemory)) false (closes_as T U _ _ side_fault.NoMemory) reads

  pub tells_side : {T U : Type 0} (r : Result U LedgerFault) (e : CacheFileFault) → CacheFileReads a b (side_refusal T e) → IsErrAnd r (λ fault. fault ≡ ledger_fault e) → LedgerReads a b r
  tells_side (Ok x) e reads is = absurd is
  tells_side {T = T} {U = U} (Err fault) e reads is = subst (λ (f : LedgerFault). LedgerReads a b (refusal U f)) (sym is) (handed_on {T = T} e reads)

-- ---- what the file holds

some_bytes : (a b : List ℕ) → Some a ≡ Some b → a ≡ b
some_bytes a b e = cc

pub if_none : {X P Q : Type 0} (o : Option X) → (P → Q) → IfNone o P → IfNone o Q
if_none None f p = f p
if_none (Some x) f p = tt

pub holds_none : (state : Option Folder) (found : Option (List ℕ)) (bytes : List ℕ) → found ≡ Some bytes → IfSome state (HoldsCacheFile Failing found) → ((covers : ℕ) (ids : List (List ℕ)) → IsFailingCache bytes covers ids → ⊥)
    → IfSome state HoldsNoFailing
holds_none None found bytes is holds none = tt
holds_none (Some s) found bytes is holds none = λ covers ids cache.
    let same : cache.bytes ≡ bytes = some_bytes cache.bytes bytes (sym cache.file ∙ sym holds ∙ is) in
    none covers ids (subst (λ (l : List ℕ). IsFailingCache l covers ids) same cache.form)

-- ---- what a sound folder holds

module _ {X : Type 0} where
  prefix_is : (xs ys : List X) → ((k : ℕ) → k < length ys → slice_get xs k ≡ slice_get ys k) → take (length ys) xs ≡ ys
  prefix_is xs [] same = refl
  prefix_is [] (y ∷ ys) same = absurd (none_is_not_some (Some y) (sym (same 0 (omega arith))) refl)
  prefix_is (x ∷ xs) (y ∷ ys) same =
      let first : x ≡ y = some_item x y (same 0 (omega arith)) in
      let rest : take (length ys) xs ≡ ys = prefix_is xs ys (λ k less. same (suc k) (omega (arith, less))) in
      (λ i. first i ∷ rest i)
    where
      some_item : (a b : X) → Some a ≡ Some b → a ≡ b
      some_item a b e = cc

module _ {X : Type 0} (says : List RunRows → X) (s : Folder) (kinds : List Bool) (fits : FitsFolder kinds s) (covers : ℕ) (x : X) (said : SaidOfFirst says s.disk.published covers x) where
  all_runs : (runs : List Run) × Shows s.disk.published runs
  all_runs = shown s.disk.published fits.repository

  first_are : take covers all_runs.0 ≡ said.runs
  first_are =
      ap (λ n. take n all_runs.0) (sym said.count)
      ∙ prefix_is all_runs.0 said.runs (λ k less. sym (all_runs.1.each k (omega (arith, less, said.first.few))) ∙ said.first.each k less)

  says_first : SaysTo says covers x s
  says_first = (said.entries, record { runs = all_runs.0; shown = all_runs.1; are = subst (λ (l : List Run). AreRunRows l said.entries) (sym first_are) said.rows }, said.said)

  first_few : covers ≤ length kinds
  first_few = elim (cases_lt (length kinds) covers) [
    | inr most ↦ most
    | inl less ↦
        let few : length kinds < most_runs = omega (arith, less, said.count, said.first.few) in
        absurd
        (none_is_not_some (run_at s.disk.published (length kinds)) (kind_none (run_at s.disk.published (length kinds)) (fits.kinds_are.each (length kinds) few ∙ past_items kinds (length kinds) (omega arith)))
        (subst IsSome (sym (said.first.each (length kinds) (omega (arith, less, said.count)))) (within_items said.runs (length kinds) (omega (arith, less, said.count)))))
  ]
    where
      kind_none : (run : Option Run) → option_map (λ r. r.partial) run ≡ None → run ≡ None
      kind_none None none = refl
      kind_none (Some run) none = cc

-- the fold goes on from there
pub said_to : {X : Type 0} (says : List RunRows → X) (state : Option Folder) (kinds : List Bool) (covers : ℕ) (x : X) → IfSome state (FitsFolder kinds)
    → IfSome state (λ s. SaidOfFirst says s.disk.published covers x) → IfSome state (SaysTo says covers x)
said_to says None kinds covers x fits said = tt
said_to says (Some s) kinds covers x fits said = says_first says s kinds fits covers x said

pub set_of : (ids list now old : List (List ℕ)) → list ≡ ids → old ≡ [] → IsStrictlySortedBy text_cmp ids → now ≡ in_byte_order (old ++ list) → now ≡ ids
set_of ids list now old same none ordered is = is ∙ (λ i. in_byte_order (none i ++ same i)) ∙ ordered_already ids ordered

-- what was read of a base
pub begins_at : (state : Option Folder) (base : ABase) (start end : ℕ) → start ≡ min base.count end → IfSome state (ReadsBase base) → IfSome state (CountsUpTo end) → IfSome state (λ s. start ≡ (base_of s.disk.published).count)
begins_at None base start end is reads counted = tt
begins_at (Some s) base start end is reads counted = omega (arith, is, ap (λ (b : Base). b.count) reads.is, counted)

pub begins_with : (state : Option Folder) (base : ABase) (old now : List (List ℕ)) → old ≡ [] → now ≡ in_byte_order (old ++ base.ids) → IfSome state (ReadsBase base) → IfSome state (λ s. now ≡ (base_of s.disk.published).ids)
begins_with None base old now none is reads = tt
begins_with (Some s) base old now none is reads =
    set_of (base_of s.disk.published).ids base.ids now old (ap (λ (b : Base). b.ids) reads.is) none (base_sorted s.disk.published reads.form) is

-- a cache that says its runs
pub held_is_said : (state : Option Folder) (covers number : ℕ) (ids : List (List ℕ)) → covers ≤ number → IfSome state (SaysItsFailing number) → IfSome state (HoldsFailing covers ids)
    → IfSome state (λ s. FailingOfFirst s.disk.published covers ids)
held_is_said None covers number ids few says holds = tt
held_is_said (Some s) covers number ids few says holds = says covers ids holds few

-- what it says is the failing set of these
pub fails_said : (state : Option Folder) (kinds : List Bool) (covers : ℕ) (ids : List (List ℕ)) → IfSome state (FitsFolder kinds) → IfSome state (λ s. FailingOfFirst s.disk.published covers ids) → IfSome state (FailsTo kinds covers ids)
fails_said None kinds covers ids fits said = tt
fails_said (Some s) kinds covers ids fits said =
    let to = says_first (failing_after (base_of s.disk.published)) s kinds fits covers ids said.said in
    (to.0, to.1, inl (record { behind = said.behind; are = to.2 }))

-- in a sound folder it does
pub sound_failing_says : (state : Option Folder) (number : ℕ) → IfSome state ReadsSound → IfSome state (SaysItsFailing number)
sound_failing_says None number sound = tt
sound_failing_says (Some s) number sound = λ covers ids holds few. sound.failing holds.bytes covers ids holds.file holds.form

-- ---- how many calls it takes

-- the file was read, and the runs from this number on, up to the one before `end`
pub cache_and_runs : (state : Option Folder) (start less end before middle now : ℕ) → less ≤ start → middle ≤ before + 2 → IfSome state (ReadsTo start end middle now) → IfSome state (ReadsBehindCacheTo less end before now)
cache_and_runs None start less end before middle now most ticks reads = tt
cache_and_runs (Some s) start less end before middle now most ticks reads = λ runs shows. omega (arith, ticks, reads runs shows, asked_less runs less start most)

-- no full run is behind the last one
full_within : (kinds : List Bool) (last full : ℕ) → IsLastFull kinds last → slice_get kinds full ≡ Some false → full ≤ last
full_within kinds last full is at = elim (cases_lt last full) [
  | inl less ↦ absurd (is.last full less at)
  | inr within ↦ within
]

-- whether a cache saves reads
pub spares_by : (kinds : List Bool) (end covers : ℕ) (o : Option ℕ) → IfSome o (IsLastFull kinds) → IfNone o (AreAllPartial kinds) → covers ≤ end
    → (IfSome o (λ n. n < covers) → Spares kinds end covers) × (Spares kinds end covers → IfSome o (λ n. n < covers))
spares_by kinds end covers None last none few = (λ behind. record { few = few; behind = λ full at. absurd (none full at) }, λ spares. tt)
spares_by kinds end covers (Some n) last none few = (
  λ less. record { few = few; behind = λ full at. omega (arith, less, full_within kinds n full last at) },
  λ spares. spares.behind n last.full,
)

-- a cache that saves none
pub spares_none : (kinds : List Bool) (end covers start : ℕ) → (Spares kinds end covers → ⊥) → covers ≤ end → IsLastFull kinds start → covers ≤ start
spares_none kinds end covers start none few last = elim (cases_lt start covers) [
  | inl less ↦ absurd (none (record { few = few; behind = λ full at. omega (arith, less, full_within kinds start full last at) }))
  | inr most ↦ most
]

-- the first run that is to be read is none behind it
start_within : (kinds : List Bool) (end covers start : ℕ) → Spares kinds end covers → IsStart kinds start → start ≤ covers
start_within kinds end covers start spares begins = elim begins.full [
  | inl first ↦ omega (arith, first)
  | inr full ↦ omega (arith, spares.behind start full)
]

-- the reads that a cache saves, where it covers no run from `end` on
abbrev pub SparesFailing : Type 0 → ℕ → ℕ → ℕ → Folder → Type 0
SparesFailing Open end before now s = (covers : ℕ) (ids : List (List ℕ)) → HoldsFailing covers ids s → (Open → covers ≤ end) → ReadsBehindCacheTo covers end before now s

abbrev pub FromFull : List Bool → (ℕ → Folder → Type 0) → Folder → Type 0
FromFull kinds Costs s = (start : ℕ) → IsLastFull kinds start → Costs start s

abbrev pub FromStart : List Bool → (ℕ → Folder → Type 0) → Folder → Type 0
FromStart kinds Costs s = (start : ℕ) → IsStart kinds start → Costs start s

-- the reads where the cache is not used, or lacks
module _ (kinds : List Bool) (end before middle now : ℕ) (ticks : middle ≤ before + 2) where
  pub reads_without : (state : Option Folder) → IfSome state (FromStart kinds (λ start. ReadsTo start end (middle + 3) now)) → IfSome state (FromStart kinds (λ start. ReadsBehindCacheTo start end (before + 3) now))
  reads_without None reads = tt
  reads_without (Some s) reads = λ start begins. cache_and_runs (Some s) start start end (before + 3) (middle + 3) now (omega arith) (omega (arith, ticks)) (reads start begins)

  pub reads_without_full : (state : Option Folder) → IfSome state (FromFull kinds (λ start. ReadsTo start end middle now)) → IfSome state (FromFull kinds (λ start. ReadsBehindCacheTo start end before now))
  reads_without_full None reads = tt
  reads_without_full (Some s) reads = λ start last. cache_and_runs (Some s) start start end before middle now (omega arith) ticks (reads start last)

  pub lacks_cache : (Open : Type 0) (state : Option Folder) → IfSome state HoldsNoFailing → IfSome state (SparesFailing Open end before now)
  lacks_cache Open None none = tt
  lacks_cache Open (Some s) none = λ covers ids holds few. absurd (none covers ids holds)

-- there is one cache in a file
module _ (covers : ℕ) (ids : List (List ℕ)) (s : Folder) (holds : HoldsFailing covers ids s) where
  one_cache : (also : ℕ) (others : List (List ℕ)) → HoldsFailing also others s → also ≡ covers
  one_cache also others other =
      let same : other.bytes ≡ holds.bytes = some_bytes other.bytes holds.bytes (sym other.file ∙ holds.file) in
      (one_failing holds.bytes covers also ids others holds.form (subst (λ (l : List ℕ). IsFailingCache l also others) same other.form)).0

-- the reads where the cache is used
module _ (state : Option Folder) (covers : ℕ) (ids : List (List ℕ)) (end before middle now : ℕ) (holds : IfSome state (HoldsFailing covers ids)) (ticks : middle ≤ before + 2) where
  pub with_cache : (Open : Type 0) → IfSome state (ReadsTo covers end middle now) → IfSome state (SparesFailing Open end before now)
  with_cache Open reads = there state holds reads
    where
      there : (state : Option Folder) → IfSome state (HoldsFailing covers ids) → IfSome state (ReadsTo covers end middle now) → IfSome state (SparesFailing Open end before now)
      there None h r = tt
      there (Some s) h r = λ also others other few.
          let same : also ≡ covers = one_cache covers ids s h also others other in
          cache_and_runs (Some s) covers also end before middle now (omega (arith, same)) ticks r

  pub with_cache_start : (kinds : List Bool) → Spares kinds end covers → IfSome state (ReadsTo covers end middle now) → IfSome state (FromStart kinds (λ start. ReadsBehindCacheTo start end (before + 3) now))
  with_cache_start kinds spares reads = there state reads
    where
      there : (state : Option Folder) → IfSome state (ReadsTo covers end middle now) → IfSome state (FromStart kinds (λ start. ReadsBehindCacheTo start end (before + 3) now))
      there None r = tt
      there (Some s) r = λ start begins. cache_and_runs (Some s) covers start end (before + 3) middle now (start_within kinds end covers start spares begins) (omega (arith, ticks)) r

  pub with_cache_full : (kinds : List Bool) → Spares kinds end covers → IfSome state (ReadsTo covers end middle now) → IfSome state (FromFull kinds (λ start. ReadsBehindCacheTo start end before now))
  with_cache_full kinds spares reads = there state reads
    where
      there : (state : Option Folder) → IfSome state (ReadsTo covers end middle now) → IfSome state (FromFull kinds (λ start. ReadsBehindCacheTo start end before now))
      there None r = tt
      there (Some s) r = λ start last. cache_and_runs (Some s) covers start end before middle now (omega (arith, spares.behind start last.full)) ticks r

  -- or is not used, since a later run is full
  pub unused_cache : (Open : Type 0) → Open → (kinds : List Bool) → ((start : ℕ) × IsLastFull kinds start) ⊎ AreAllPartial kinds → (Spares kinds end covers → ⊥)
      → IfSome state (FromFull kinds (λ start. ReadsTo start end middle now)) → IfSome state (SparesFailing Open end before now)
  unused_cache Open open_still kinds (inr partial) none reads = there state holds
    where
      there : (state : Option Folder) → IfSome state (HoldsFailing covers ids) → IfSome state (SparesFailing Open end before now)
      there None h = tt
      there (Some s) h = λ also others other few.
          let same : also ≡ covers = one_cache covers ids s h also others other in
          absurd (none (record { few = omega (arith, same, few open_still); behind = λ full at. absurd (partial full at) }))
  unused_cache Open open_still kinds (inl (first, last)) none reads = there state holds reads
    where
      there : (state : Option Folder) → IfSome state (HoldsFailing covers ids) → IfSome state (FromFull kinds (λ start. ReadsTo start end middle now)) → IfSome state (SparesFailing Open end before now)
      there None h r = tt
      there (Some s) h r = λ also others other few.
          let same : also ≡ covers = one_cache covers ids s h also others other in
          cache_and_runs (Some s) first also end before middle now (omega (arith, same, spares_none kinds end covers first none (omega (arith, same, few open_still)) last)) ticks (r first last)

-- a sound folder has no cache of more runs than there are
pub all_spared : (state : Option Folder) (kinds : List Bool) (Open : Type 0) (before now : ℕ) → (Open → IfSome state (FitsFolder kinds)) → IfSome state ReadsSound → IfSome state (SparesFailing Open (length kinds) before now)
    → IfSome state (λ s. (covers : ℕ) (ids : List (List ℕ)) → HoldsFailing covers ids s → ReadsBehindCache covers before now s)
all_spared None kinds Open before now fits sound spares = tt
all_spared (Some s) kinds Open before now fits sound spares = λ covers ids holds runs shows.
    let few : Open → covers ≤ length kinds = λ open_still. first_few (failing_after (base_of s.disk.published)) s kinds (fits open_still) covers ids (sound.failing holds.bytes covers ids holds.file holds.form).said in
    omega (arith, spares covers ids holds few runs shows)

pub all_behind : (state : Option Folder) (kinds : List Bool) (end before now : ℕ) → IfSome state (FromStart kinds (λ start. ReadsBehindCacheTo start end before now)) → IfSome state (FromStart kinds (λ start. ReadsBehindCache start before now))
all_behind None kinds end before now reads = tt
all_behind (Some s) kinds end before now reads = λ start begins runs shows. omega (arith, reads start begins runs shows)

pub all_behind_full : (state : Option Folder) (kinds : List Bool) (end before now : ℕ) → IfSome state (FromFull kinds (λ start. ReadsBehindCacheTo start end before now)) → IfSome state (FromFull kinds (λ start. ReadsBehindCache start before now))
all_behind_full None kinds end before now reads = tt
all_behind_full (Some s) kinds end before now reads = λ start last runs shows. omega (arith, reads start last runs shows)

-- each list of kinds has a last full run, or none
LastUpTo : List Bool → ℕ → Type 0
LastUpTo kinds n = ((other : ℕ) → n ≤ other → slice_get kinds other ≡ Some false → ⊥) → ((start : ℕ) × IsLastFull kinds start) ⊎ AreAllPartial kinds

last_before : (kinds : List Bool) (n : ℕ) (o : Option Bool) → slice_get kinds n ≡ o → LastUpTo kinds n → LastUpTo kinds (suc n)
unfolding LastUpTo
last_before kinds n (Some false) is before none = inl (n, record { full = is; last = λ other less full. none other (omega (arith, less)) full })
last_before kinds n (Some true) is before none = before (λ other most full. elim (cases_lt n other) [
  | inl less ↦ none other (omega (arith, less)) full
  | inr least ↦ absurd (let there : slice_get kinds n ≡ Some false = subst (λ (m : ℕ). slice_get kinds m ≡ Some false) (omega (arith, most, least)) full in cc)
])
last_before kinds n None is before none = before (λ other most full. elim (cases_lt n other) [
  | inl less ↦ none other (omega (arith, less)) full
  | inr least ↦ absurd (let there : slice_get kinds n ≡ Some false = subst (λ (m : ℕ). slice_get kinds m ≡ Some false) (omega (arith, most, least)) full in cc)
])

last_up_to : (kinds : List Bool) (n : ℕ) → LastUpTo kinds n
unfolding LastUpTo
last_up_to kinds zero none = inr (λ number full. none number (omega arith) full)
last_up_to kinds (suc n) none = last_before kinds n (slice_get kinds n) refl (last_up_to kinds n) none

pub some_last : (kinds : List Bool) → ((start : ℕ) × IsLastFull kinds start) ⊎ AreAllPartial kinds
unfolding LastUpTo
some_last kinds = last_up_to kinds (length kinds) (λ other past full. none_is_not_some (slice_get kinds other) (past_items kinds other past) (subst IsSome (sym full) refl))

-- ---- the same of the times

pub holds_no_times : (state : Option Folder) (found : Option (List ℕ)) (bytes : List ℕ) → found ≡ Some bytes → IfSome state (HoldsCacheFile Times found) → ((covers : ℕ) (times : FinMap text_cmp ℕ) → IsTimesCache bytes covers times → ⊥)
    → IfSome state HoldsNoTimes
holds_no_times None found bytes is holds none = tt
holds_no_times (Some s) found bytes is holds none = λ covers times cache.
    let same : cache.bytes ≡ bytes = some_bytes cache.bytes bytes (sym cache.file ∙ sym holds ∙ is) in
    none covers times (subst (λ (l : List ℕ). IsTimesCache l covers times) same cache.form)

pub held_times_said : (state : Option Folder) (covers number : ℕ) (times : FinMap text_cmp ℕ) → covers ≤ number → IfSome state (SaysItsTimes number) → IfSome state (HoldsTimes covers times)
    → IfSome state (λ s. SaidOfFirst times_after s.disk.published covers times)
held_times_said None covers number times few says holds = tt
held_times_said (Some s) covers number times few says holds = says covers times holds few

pub sound_times_says : (state : Option Folder) (number : ℕ) → IfSome state ReadsSound → IfSome state (SaysItsTimes number)
sound_times_says None number sound = tt
sound_times_says (Some s) number sound = λ covers times holds few. sound.times holds.bytes covers times holds.file holds.form

one_times_cache : (covers also : ℕ) (times others : FinMap text_cmp ℕ) (s : Folder) → HoldsTimes covers times s → HoldsTimes also others s → also ≡ covers
one_times_cache covers also times others s holds other =
    let same : other.bytes ≡ holds.bytes = some_bytes other.bytes holds.bytes (sym other.file ∙ holds.file) in
    (one_times holds.bytes covers also times others holds.form (subst (λ (l : List ℕ). IsTimesCache l also others) same other.form)).0

abbrev pub SparesTimes : Type 0 → ℕ → ℕ → ℕ → Folder → Type 0
SparesTimes Open end before now s = (covers : ℕ) (times : FinMap text_cmp ℕ) → HoldsTimes covers times s → (Open → covers ≤ end) → ReadsBehindCacheTo covers end before now s

module _ (Open : Type 0) (end before middle now : ℕ) (ticks : middle ≤ before + 2) where
  pub lacks_times : (state : Option Folder) → IfSome state HoldsNoTimes → IfSome state (SparesTimes Open end before now)
  lacks_times None none = tt
  lacks_times (Some s) none = λ covers times holds few. absurd (none covers times holds)

  pub with_times : (state : Option Folder) (covers : ℕ) (times : FinMap text_cmp ℕ) → IfSome state (HoldsTimes covers times) → IfSome state (ReadsTo covers end middle now) → IfSome state (SparesTimes Open end before now)
  with_times None covers times holds reads = tt
  with_times (Some s) covers times holds reads = λ also others other few.
      let same : also ≡ covers = one_times_cache covers also times others s holds other in
      cache_and_runs (Some s) covers also end before middle now (omega (arith, same)) ticks reads

  -- a cache of more runs is not used
  pub too_many_times : Open → (state : Option Folder) (covers : ℕ) (times : FinMap text_cmp ℕ) → IfSome state (HoldsTimes covers times) → (covers ≤ end → ⊥) → IfSome state (SparesTimes Open end before now)
  too_many_times open_still None covers times holds more = tt
  too_many_times open_still (Some s) covers times holds more = λ also others other few.
      let same : also ≡ covers = one_times_cache covers also times others s holds other in
      absurd (more (omega (arith, same, few open_still)))

-- a sound folder has no cache of more runs than there are
pub all_times_spared : (state : Option Folder) (kinds : List Bool) (Open : Type 0) (before now : ℕ) → (Open → IfSome state (FitsFolder kinds)) → IfSome state ReadsSound → IfSome state (SparesTimes Open (length kinds) before now)
    → IfSome state (λ s. (covers : ℕ) (times : FinMap text_cmp ℕ) → HoldsTimes covers times s → ReadsBehindCache covers before now s)
all_times_spared None kinds Open before now fits sound spares = tt
all_times_spared (Some s) kinds Open before now fits sound spares = λ covers times holds runs shows.
    let few : Open → covers ≤ length kinds = λ open_still. first_few times_after s kinds (fits open_still) covers times (sound.times holds.bytes covers times holds.file holds.form) in
    omega (arith, spares covers times holds few runs shows)

pub all_times_behind : (state : Option Folder) (end before now : ℕ) → IfSome state (ReadsBehindCacheTo 0 end before now) → IfSome state (ReadsBehindCache 0 before now)
all_times_behind None end before now reads = tt
all_times_behind (Some s) end before now reads = λ runs shows. omega (arith, reads runs shows)

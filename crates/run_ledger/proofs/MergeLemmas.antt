-- Entries that replace earlier ones.
use Rattle.std.proofs.Common.{◌≡◌, ℕ, ◌+◌, ◌-◌, ◌<◌, ◌≤◌, ◌^◌, Bool, true, false, cond, List, [], ◌∷◌, ◌++◌, Option, Some, None, map, length, take, drop, get_or, refl, sym, ap, ◌∙◌, subst, append_assoc, add-one, drop-cons, arith, length-append}
use Rattle.std.specs.FinMap as fin
use Rattle.std.specs.FinMap.{FinMap, find, same_map, get-from_entries, entries_sorted}
use Rattle.std.specs.Fmt.{decimal}
use Rattle.std.specs.List.{All, flat_map}
use Rattle.std.specs.Ordering.{is_lt, is_eq}
use Rattle.std.specs.declared.cmp.Ordering.{Ordering}
use Rattle.std.specs.declared.cmp.Ordering.TheVariants.{Less, Equal, Greater}
use Rattle.sub_number.specs.Texts.{IsShortText}
use Rattle.std.proofs.lemmas.List.{drop_all}
use Rattle.std.proofs.lemmas.List.Elements.{All-nil, All-cons, All-head, All-tail, All-append}
use Rattle.outcome_fold.specs.declared.row.Row.{Row}
use Rattle.outcome_fold.specs.Order.{text_cmp}
use Rattle.outcome_fold.specs.Answers.{times_of}
use Rattle.outcome_fold.specs.Longest.{AreSorted, last_of_each}
use Rattle.outcome_fold.proofs.OrderLemmas.{texts_total, exact_texts}
use Rattle.outcome_fold.proofs.TableLemmas.{entries_in_order}
use Rattle.outcome_fold.proofs.StrictLemmas.{Timed, Above, Strict, less_is, turned, strict_keys}
use Rattle.run_shelf.specs.IdFiles.{Lacks, IsCutAtMark}
use Rattle.run_ledger.specs.Caches.{time_entry, IsTimed}
use Rattle.run_ledger.specs.Cuts.{AreTimeEntries}
use Rattle.run_ledger.specs.Ledger.{replaced}
use Rattle.run_ledger.specs.Merging.{AreEntriesOfTimes, BeginsWithEntry, timed_of, below, not_below, past, merged}
use Rattle.run_ledger.proofs.EntryLemmas.{from_own}
use Rattle.run_ledger.proofs.FormLemmas.{cut_same, has_mark, decimal_digits, no_zero}
use Rattle.run_ledger.proofs.TimedLemmas.{one_time, keys_sorted}
use Rattle.run_ledger.proofs.ReplaceLemmas.{latest_is}
use Rattle.run_ledger.proofs.StrictLemmas.{Under, equal_is, greater_is, above_more, under_more, not_above, not_under, or_else, find_join, keys_strict, joined_strict}
use Rattle.run_ledger.proofs.LongestLemmas.{longest_strict, longest_are}

-- ---- where an id parts entries

pub parts : (id : List ℕ) (es : List Timed) → below id es ++ not_below id es ≡ es
parts id [] = refl
parts id (e ∷ es) = elim (is_lt (text_cmp e.0 id)) as (λ b. cond b (e ∷ below id es) [] ++ cond b (not_below id es) (e ∷ es) ≡ e ∷ es) [ true ↦ ap (λ l. e ∷ l) (parts id es) | false ↦ refl ]

all_below : (P : Timed → Type 0) (id : List ℕ) (es : List Timed) → All P es → All P (below id es)
all_below P id [] all = All-nil P
all_below P id (e ∷ es) all = either (is_lt (text_cmp e.0 id)) (All-cons P e (below id es) (All-head P e es all) (all_below P id es (All-tail P e es all)))
  where
    either : (b : Bool) → All P (e ∷ below id es) → All P (cond b (e ∷ below id es) [])
    either true some = some
    either false some = All-nil P

all_not_below : (P : Timed → Type 0) (id : List ℕ) (es : List Timed) → All P es → All P (not_below id es)
all_not_below P id [] all = All-nil P
all_not_below P id (e ∷ es) all = either (is_lt (text_cmp e.0 id)) (all_not_below P id es (All-tail P e es all))
  where
    either : (b : Bool) → All P (not_below id es) → All P (cond b (not_below id es) (e ∷ es))
    either true some = some
    either false some = all

all_past : (P : Timed → Type 0) (id : List ℕ) (es : List Timed) → All P es → All P (past id es)
all_past P id [] all = All-nil P
all_past P id (e ∷ es) all = elim (is_eq (text_cmp e.0 id)) as (λ b. All P (cond b es (e ∷ es))) [ true ↦ All-tail P e es all | false ↦ all ]

pub all_merged : (P : Timed → Type 0) (es later : List Timed) → All P es → All P later → All P (merged es later)
all_merged P es [] all also = all
all_merged P es (d ∷ later) all also =
    All-append P (below d.0 es) (d ∷ merged (past d.0 (not_below d.0 es)) later) (all_below P d.0 es all)
    (All-cons P d (merged (past d.0 (not_below d.0 es)) later) (All-head P d later also) (all_merged P (past d.0 (not_below d.0 es)) later (all_past P d.0 (not_below d.0 es) (all_not_below P d.0 es all)) (All-tail P d later also)))

-- ---- in order

below_under : (id : List ℕ) (es : List Timed) → Under (below id es) id
below_under id [] = All-nil (λ (e : Timed). text_cmp e.0 id ≡ Less)
below_under id (e ∷ es) = either (is_lt (text_cmp e.0 id)) refl (below_under id es)
  where
    either : (b : Bool) → is_lt (text_cmp e.0 id) ≡ b → Under (below id es) id → Under (cond b (e ∷ below id es) []) id
    either true is rest = All-cons (λ (f : Timed). text_cmp f.0 id ≡ Less) e (below id es) (less_is (text_cmp e.0 id) is) rest
    either false is rest = All-nil (λ (f : Timed). text_cmp f.0 id ≡ Less)

below_strict : (id : List ℕ) (es : List Timed) → Strict es → Strict (below id es)
below_strict id [] strict = tt
below_strict id (e ∷ es) strict = elim (is_lt (text_cmp e.0 id)) as (λ b. Strict (cond b (e ∷ below id es) [])) [ true ↦ (all_below (λ f. text_cmp e.0 f.0 ≡ Less) id es strict.0, below_strict id es strict.1) | false ↦ tt ]

not_below_strict : (id : List ℕ) (es : List Timed) → Strict es → Strict (not_below id es)
not_below_strict id [] strict = tt
not_below_strict id (e ∷ es) strict = elim (is_lt (text_cmp e.0 id)) as (λ b. Strict (cond b (not_below id es) (e ∷ es))) [ true ↦ not_below_strict id es strict.1 | false ↦ strict ]

past_strict : (id : List ℕ) (es : List Timed) → Strict es → Strict (past id es)
past_strict id [] strict = tt
past_strict id (e ∷ es) strict = elim (is_eq (text_cmp e.0 id)) as (λ b. Strict (cond b es (e ∷ es))) [ true ↦ strict.1 | false ↦ strict ]

-- what stands behind the id
past_first : (id : List ℕ) (e : Timed) (es : List Timed) → Strict (e ∷ es) → is_lt (text_cmp e.0 id) ≡ false → Above id (past id (e ∷ es))
past_first id e es strict low = elim (is_eq (text_cmp e.0 id)) as (λ b. is_eq (text_cmp e.0 id) ≡ b → Above id (cond b es (e ∷ es))) [
  | true ↦ λ equal. subst (λ (k : List ℕ). Above k es) (exact_texts e.0 id (equal_is (text_cmp e.0 id) equal)) strict.0
  | false ↦ λ equal. let less : text_cmp id e.0 ≡ Less = turned e.0 id (greater_is (text_cmp e.0 id) low equal) in All-cons (λ f. text_cmp id f.0 ≡ Less) e es less (above_more id e.0 es less strict.0)
] refl

past_above : (id : List ℕ) (es : List Timed) → Strict es → Above id (past id (not_below id es))
past_above id [] strict = All-nil (λ (e : Timed). text_cmp id e.0 ≡ Less)
past_above id (e ∷ es) strict = elim (is_lt (text_cmp e.0 id)) as (λ b. is_lt (text_cmp e.0 id) ≡ b → Above id (past id (cond b (not_below id es) (e ∷ es)))) [
  | true ↦ λ low. past_above id es strict.1
  | false ↦ λ low. past_first id e es strict low
] refl

pub merged_strict : (es later : List Timed) → Strict es → Strict later → Strict (merged es later)
merged_strict es [] strict also = strict
merged_strict es (d ∷ later) strict also =
    let rest : Strict (past d.0 (not_below d.0 es)) = past_strict d.0 (not_below d.0 es) (not_below_strict d.0 es strict) in
    joined_strict (below d.0 es) d (merged (past d.0 (not_below d.0 es)) later) (below_strict d.0 es strict) (below_under d.0 es)
    (all_merged (λ f. text_cmp d.0 f.0 ≡ Less) (past d.0 (not_below d.0 es)) later (past_above d.0 es strict) also.0) (merged_strict (past d.0 (not_below d.0 es)) later rest also.1)

-- ---- what is found

past_finds : (id q : List ℕ) (es : List Timed) → is_eq (text_cmp q id) ≡ false → find text_cmp q (past id es) ≡ find text_cmp q es
past_finds id q [] other = refl
past_finds id q (e ∷ es) other = elim (is_eq (text_cmp e.0 id)) as (λ b. is_eq (text_cmp e.0 id) ≡ b → find text_cmp q (cond b es (e ∷ es)) ≡ find text_cmp q (e ∷ es)) [
  | true ↦ λ equal. sym (ap (λ b. cond b (Some e.1) (find text_cmp q es)) (ap (λ k. is_eq (text_cmp q k)) (exact_texts e.0 id (equal_is (text_cmp e.0 id) equal)) ∙ other))
  | false ↦ λ equal. refl
] refl

merged_finds : (es later : List Timed) → Strict es → Strict later → (q : List ℕ) → find text_cmp q (merged es later) ≡ or_else (find text_cmp q later) (find text_cmp q es)
merged_finds es [] strict also q = refl
merged_finds es (d ∷ later) strict also q =
    let rest : List Timed = past d.0 (not_below d.0 es) in
    let more : find text_cmp q (merged (past d.0 (not_below d.0 es)) later) ≡ or_else (find text_cmp q later) (find text_cmp q (past d.0 (not_below d.0 es))) =
    merged_finds (past d.0 (not_below d.0 es)) later (past_strict d.0 (not_below d.0 es) (not_below_strict d.0 es strict)) also.1 q in
    find_join (below d.0 es) (d ∷ merged (past d.0 (not_below d.0 es)) later) q
    ∙ ap (λ o. or_else (find text_cmp q (below d.0 es)) (cond (is_eq (text_cmp q d.0)) (Some d.1) o)) more
    ∙ at (text_cmp q d.0) refl
    ∙ ap (λ l. or_else (cond (is_eq (text_cmp q d.0)) (Some d.1) (find text_cmp q later)) (find text_cmp q l)) (parts d.0 es)
  where
    front : Option ℕ
    front = find text_cmp q (below d.0 es)

    behind : Option ℕ
    behind = find text_cmp q (past d.0 (not_below d.0 es))

    whole : is_eq (text_cmp q d.0) ≡ false → find text_cmp q (below d.0 es ++ not_below d.0 es) ≡ or_else front behind
    whole other = find_join (below d.0 es) (not_below d.0 es) q ∙ ap (or_else front) (sym (past_finds d.0 q (not_below d.0 es) other))

    at : (o : Ordering) → text_cmp q d.0 ≡ o → or_else front (cond (is_eq (text_cmp q d.0)) (Some d.1) (or_else (find text_cmp q later) behind)) ≡ or_else (cond (is_eq (text_cmp q d.0)) (Some d.1) (find text_cmp q later)) (find text_cmp q (below d.0 es ++ not_below d.0 es))
    at Less is =
        let other : is_eq (text_cmp q d.0) ≡ false = ap is_eq is in
        let none : find text_cmp q later ≡ None = not_above q later (above_more q d.0 later is also.0) in
        (λ i. or_else front (cond (other i) (Some d.1) (or_else (none i) behind))) ∙ sym (whole other) ∙ (λ i. or_else (cond (sym other i) (Some d.1) (sym none i)) (find text_cmp q (below d.0 es ++ not_below d.0 es)))
    at Equal is =
        let tie : is_eq (text_cmp q d.0) ≡ true = ap is_eq is in
        let same : d.0 ≡ q = sym (exact_texts q d.0 is) in
        let none : front ≡ None = not_under q (below d.0 es) (subst (Under (below d.0 es)) same (below_under d.0 es)) in
        (λ i. or_else (none i) (cond (tie i) (Some d.1) (or_else (find text_cmp q later) behind))) ∙ (λ i. or_else (cond (sym tie i) (Some d.1) (find text_cmp q later)) (find text_cmp q (below d.0 es ++ not_below d.0 es)))
    at Greater is =
        let other : is_eq (text_cmp q d.0) ≡ false = ap is_eq is in
        let none : front ≡ None = not_under q (below d.0 es) (under_more (below d.0 es) d.0 q (below_under d.0 es) (turned q d.0 is)) in
        (λ i. or_else (none i) (cond (other i) (Some d.1) (or_else (find text_cmp q later) behind)))
        ∙ (λ i. or_else (cond (sym other i) (Some d.1) (find text_cmp q later)) (sym (whole other ∙ ap (λ o. or_else o behind) none) i))

-- the entries of the times that were replaced
module _ (earlier : FinMap text_cmp ℕ) (later : List Timed) (also : Strict later) where
  own : Strict (fin.entries earlier)
  own = keys_strict (fin.entries earlier) (keys_sorted (fin.entries earlier) (entries_sorted earlier))

  are_replaced : fin.from_entries (merged (fin.entries earlier) later) ≡ replaced earlier (fin.from_entries later)
  are_replaced = same_map texts_total exact_texts _ _ (λ q.
      get-from_entries texts_total (merged (fin.entries earlier) later) q ∙ merged_finds (fin.entries earlier) later own also q
      ∙ (λ i. or_else (sym (get-from_entries texts_total later q) i) (sym (fin.get-entries earlier q) i)) ∙ latest_is earlier (fin.from_entries later) q)

  entries_are : fin.entries (replaced earlier (fin.from_entries later)) ≡ merged (fin.entries earlier) later
  entries_are = sym (ap fin.entries are_replaced) ∙ entries_in_order texts_total (merged (fin.entries earlier) later) (strict_keys (merged (fin.entries earlier) later) (merged_strict (fin.entries earlier) later own also))

  pub replaced_entries : (bytes : List ℕ) → All IsTimed (fin.entries earlier) → All IsTimed later → bytes ≡ flat_map time_entry (merged (fin.entries earlier) later) → AreTimeEntries bytes (replaced earlier (fin.from_entries later))
  replaced_entries bytes each timed is = record {
    is = is ∙ ap (flat_map time_entry) (sym entries_are);
    each = subst (All IsTimed) (sym entries_are) (all_merged IsTimed (fin.entries earlier) later each timed);
  }

-- of a run's rows
pub run_replaced : (rows : List Row) (sorted later : List Timed) (earlier : FinMap text_cmp ℕ) (old new : List ℕ) → AreSorted (timed_of rows) sorted → later ≡ last_of_each sorted → All IsTimed later → AreTimeEntries old earlier
    → ((entries : List Timed) → AreEntriesOfTimes old entries → new ≡ flat_map time_entry (merged entries later)) → AreTimeEntries new (replaced earlier (times_of rows))
run_replaced rows sorted later earlier old new are is timed held merges =
    let same : fin.from_entries later ≡ times_of rows = ap fin.from_entries is ∙ longest_are rows sorted are in
    subst (λ (m : FinMap text_cmp ℕ). AreTimeEntries new (replaced earlier m)) same
    (replaced_entries earlier later (subst Strict (sym is) (longest_strict rows sorted are)) new held.each timed (merges (fin.entries earlier) (record { is = held.is; each = held.each })))

-- of the times that are kept of a run's rows
pub summed_replaced : (kept : FinMap text_cmp ℕ) (later : List Timed) (earlier : FinMap text_cmp ℕ) (old new : List ℕ) → later ≡ fin.entries kept → All IsTimed later → AreTimeEntries old earlier
    → ((entries : List Timed) → AreEntriesOfTimes old entries → new ≡ flat_map time_entry (merged entries later)) → AreTimeEntries new (replaced earlier kept)
summed_replaced kept later earlier old new are timed held merges =
    let same : fin.from_entries later ≡ kept = ap fin.from_entries are ∙ from_own kept in
    let strict : Strict later = subst Strict (sym are) (keys_strict (fin.entries kept) (keys_sorted (fin.entries kept) (entries_sorted kept))) in
    subst (λ (m : FinMap text_cmp ℕ). AreTimeEntries new (replaced earlier m)) same (replaced_entries earlier later strict new held.each timed (merges (fin.entries earlier) (record { is = held.is; each = held.each })))

-- texts with times that are small enough
pub timed_each : {A : Type 0} (f : A → Timed) (xs : List A) → All (λ x. IsShortText (f x).0) xs → All (λ x. (f x).1 < 2 ^ 64) xs → All IsTimed (map f xs)
timed_each f [] texts small = All-nil IsTimed
timed_each f (x ∷ xs) texts small =
    All-cons IsTimed (f x) (map f xs) (record { text = All-head (λ x. IsShortText (f x).0) x xs texts; time = All-head (λ x. (f x).1 < 2 ^ 64) x xs small })
    (timed_each f xs (All-tail (λ x. IsShortText (f x).0) x xs texts) (All-tail (λ x. (f x).1 < 2 ^ 64) x xs small))

-- ---- the first entry

cut_length : (bytes front behind : List ℕ) → IsCutAtMark 0 bytes front behind → length behind < length bytes
cut_length bytes front behind cut = omega (arith, ap length cut.is ∙ length-append front (0 ∷ behind))

pub two_cuts : (bytes front behind digits rest : List ℕ) → IsCutAtMark 0 bytes front behind → IsCutAtMark 0 behind digits rest → length rest < length bytes
two_cuts bytes front behind digits rest one two = omega (arith, cut_length bytes front behind one, cut_length behind digits rest two)

are_first : (bytes : List ℕ) (e : Timed) (es : List Timed) → AreEntriesOfTimes bytes (e ∷ es) → bytes ≡ e.0 ++ 0 ∷ (decimal e.1 ++ 0 ∷ flat_map time_entry es)
are_first bytes e es are = are.is ∙ one_time e.0 e.1 (flat_map time_entry es)

pub no_first : (bytes : List ℕ) → Lacks 0 bytes → (each : List Timed) → AreEntriesOfTimes bytes each → each ≡ []
no_first bytes lacks [] are = refl
no_first bytes lacks (e ∷ es) are = absurd (has_mark 0 e.0 (decimal e.1 ++ 0 ∷ flat_map time_entry es) (subst (Lacks 0) (are_first bytes e es are) lacks))

module _ (bytes front behind : List ℕ) (cut : IsCutAtMark 0 bytes front behind) where
  first_cut : (e : Timed) (es : List Timed) → AreEntriesOfTimes bytes (e ∷ es) → (e.0 ≡ front) × (decimal e.1 ++ 0 ∷ flat_map time_entry es ≡ behind)
  first_cut e es are = cut_same 0 front e.0 behind (decimal e.1 ++ 0 ∷ flat_map time_entry es) cut.first (no_zero e.0 (All-head IsTimed e es are.each).text) (sym cut.is ∙ are_first bytes e es are)

  pub no_second : Lacks 0 behind → (each : List Timed) → AreEntriesOfTimes bytes each → each ≡ []
  no_second lacks [] are = refl
  no_second lacks (e ∷ es) are = absurd (has_mark 0 (decimal e.1) (flat_map time_entry es) (subst (Lacks 0) (sym (first_cut e es are).1) lacks))

  pub first_is : (digits rest : List ℕ) → IsCutAtMark 0 behind digits rest → (each : List Timed) → AreEntriesOfTimes bytes each → BeginsWithEntry front rest each
  first_is digits rest second [] are = omega (arith, ap length (sym are.is ∙ cut.is) ∙ length-append front (0 ∷ behind))
  first_is digits rest second (e ∷ es) are =
      let one = first_cut e es are in
      let two = cut_same 0 digits (decimal e.1) rest (flat_map time_entry es) second.first (decimal_digits 0 e.1 (omega arith) (All-head IsTimed e es are.each).time) (sym second.is ∙ sym one.1) in
      (one.0, record { is = sym two.1; each = All-tail IsTimed e es are.each })

-- ---- the entries that are skipped

-- some of the entries below the id were skipped
abbrev pub SkipsTo : List ℕ → List ℕ → List Timed → Type 0
SkipsTo id rest each = (more : List Timed) × AreEntriesOfTimes rest more × (not_below id more ≡ not_below id each)

module _ (id rest : List ℕ) (each : List Timed) (so_far : SkipsTo id rest each) where
  pub skips_none : ((more : List Timed) → AreEntriesOfTimes rest more → more ≡ []) → AreEntriesOfTimes rest (not_below id each)
  skips_none none = subst (AreEntriesOfTimes rest) (ap (λ l. l) (is_none (so_far.0) (none so_far.0 so_far.1)) ∙ so_far.2) so_far.1
    where
      is_none : (more : List Timed) → more ≡ [] → more ≡ not_below id more
      is_none more none = none ∙ ap (not_below id) (sym none)

  module _ (first behind : List ℕ) (begins : (more : List Timed) → AreEntriesOfTimes rest more → BeginsWithEntry first behind more) where
    pub skips_more : is_lt (text_cmp first id) ≡ true → SkipsTo id behind each
    skips_more low = at so_far.0 (begins so_far.0 so_far.1) so_far.2
      where
        at : (more : List Timed) → BeginsWithEntry first behind more → not_below id more ≡ not_below id each → SkipsTo id behind each
        at [] never same = absurd never
        at (e ∷ es) found same = (es, found.1, ap (λ b. cond b (not_below id es) (e ∷ es)) (sym (ap (λ k. is_lt (text_cmp k id)) found.0 ∙ low)) ∙ same)

    pub skips_all : is_lt (text_cmp first id) ≡ false → AreEntriesOfTimes rest (not_below id each)
    skips_all low = subst (AreEntriesOfTimes rest) (at so_far.0 (begins so_far.0 so_far.1) ∙ so_far.2) so_far.1
      where
        at : (more : List Timed) → BeginsWithEntry first behind more → more ≡ not_below id more
        at [] never = refl
        at (e ∷ es) found = ap (λ b. cond b (not_below id es) (e ∷ es)) (sym (ap (λ k. is_lt (text_cmp k id)) found.0 ∙ low))

-- ---- the bytes

flat_both : (xs ys : List Timed) → flat_map time_entry (xs ++ ys) ≡ flat_map time_entry xs ++ flat_map time_entry ys
flat_both [] ys = refl
flat_both (x ∷ xs) ys = ap (λ l. time_entry x ++ l) (flat_both xs ys) ∙ sym (append_assoc (time_entry x) (flat_map time_entry xs) (flat_map time_entry ys))

take_front : (xs ys : List ℕ) (n : ℕ) → n ≡ length xs → take n (xs ++ ys) ≡ xs
take_front xs ys n is = ap (λ m. take m (xs ++ ys)) is ∙ front xs
  where
    front : (xs : List ℕ) → take (length xs) (xs ++ ys) ≡ xs
    front [] = refl
    front (x ∷ xs) = ap (λ l. x ∷ l) (front xs)

pub front_below : (entries rest id : List ℕ) (each : List Timed) → AreEntriesOfTimes entries each → AreEntriesOfTimes rest (not_below id each) → take (length entries - length rest) entries ≡ flat_map time_entry (below id each)
front_below entries rest id each are behind =
    let all : entries ≡ flat_map time_entry (below id each) ++ rest =
    are.is ∙ ap (flat_map time_entry) (sym (parts id each)) ∙ flat_both (below id each) (not_below id each) ∙ ap (λ l. flat_map time_entry (below id each) ++ l) (sym behind.is) in
    let size : length entries - length rest ≡ length (flat_map time_entry (below id each)) = omega (arith, ap length all ∙ length-append (flat_map time_entry (below id each)) rest) in
    ap (take (length entries - length rest)) all ∙ take_front (flat_map time_entry (below id each)) rest (length entries - length rest) size

-- the bytes so far, the later entries that are left, and the earlier ones that are left
abbrev pub MergedTo : List ℕ → List ℕ → List Timed → List Timed → Type 0
MergedTo bytes rest left whole = (more : List Timed) × AreEntriesOfTimes rest more × (bytes ++ flat_map time_entry (merged more left) ≡ flat_map time_entry whole)

pub merge_none : (bytes earlier : List ℕ) (entries later : List Timed) → bytes ≡ [] → AreEntriesOfTimes earlier entries → MergedTo bytes earlier later (merged entries later)
merge_none bytes earlier entries later none are = (entries, are, ap (λ (l : List ℕ). l ++ flat_map time_entry (merged entries later)) none)

pub merge_all : (bytes rest new : List ℕ) (whole left : List Timed) → left ≡ [] → MergedTo bytes rest left whole → new ≡ bytes ++ rest → new ≡ flat_map time_entry whole
merge_all bytes rest new whole left none so_far is =
    is ∙ ap (λ l. bytes ++ l) so_far.1.is ∙ ap (λ l. bytes ++ flat_map time_entry (merged so_far.0 l)) (sym none) ∙ so_far.2

module _ (bytes rest next new : List ℕ) (whole left all : List Timed) (one : Timed) (begins : all ≡ one ∷ left) (before : MergedTo bytes rest all whole) where
  so_far : MergedTo bytes rest (one ∷ left) whole
  so_far = subst (λ (l : List Timed). MergedTo bytes rest l whole) begins before

  pub merge_more : ((each : List Timed) → AreEntriesOfTimes rest each → AreEntriesOfTimes next (past one.0 (not_below one.0 each))) → ((each : List Timed) → AreEntriesOfTimes rest each → new ≡ bytes ++ (flat_map time_entry (below one.0 each) ++ time_entry one)) → MergedTo new next left whole
  merge_more behind puts =
      let rests : List ℕ = flat_map time_entry (merged (past one.0 (not_below one.0 so_far.0)) left) in (
        past one.0 (not_below one.0 so_far.0),
        behind so_far.0 so_far.1,
        ap (λ (l : List ℕ). l ++ rests) (puts so_far.0 so_far.1)
            ∙ append_assoc bytes (flat_map time_entry (below one.0 so_far.0) ++ time_entry one) rests
            ∙ ap (λ l. bytes ++ l) (append_assoc (flat_map time_entry (below one.0 so_far.0)) (time_entry one) rests ∙ sym (flat_both (below one.0 so_far.0) (one ∷ merged (past one.0 (not_below one.0 so_far.0)) left)))
            ∙ so_far.2,
      )

pub next_left : {A : Type 0} (f : A → Timed) (xs : List A) (i : ℕ) (d : A) → i < length xs → map f (drop i xs) ≡ f (get_or xs i d) ∷ map f (drop (i + 1) xs)
next_left f xs i d within = ap (map f) (drop-cons xs i d within ∙ (λ j. get_or xs i d ∷ drop (sym (add-one i) j) xs))

pub none_left : {A : Type 0} (f : A → Timed) (xs : List A) (i : ℕ) → length xs ≤ i → map f (drop i xs) ≡ []
none_left f xs i past = ap (map f) (drop_all i xs past)

pub run_merged : (rows listed : List Row) (earlier : FinMap text_cmp ℕ) (later passed : List Timed) (old new : List ℕ) → listed ≡ rows → (sorted : List Timed) × AreSorted (timed_of listed) sorted × (later ≡ last_of_each sorted) → All IsTimed later → passed ≡ later
    → AreTimeEntries old earlier → ((entries : List Timed) → AreEntriesOfTimes old entries → new ≡ flat_map time_entry (merged entries passed)) → AreTimeEntries new (replaced earlier (times_of rows))
run_merged rows listed earlier later passed old new rows_are (sorted, are, is) timed same held merges =
    subst (λ (l : List Row). AreTimeEntries new (replaced earlier (times_of l))) rows_are
    (run_replaced listed sorted later earlier old new are is timed held (λ entries of. merges entries of ∙ ap (λ l. flat_map time_entry (merged entries l)) same))

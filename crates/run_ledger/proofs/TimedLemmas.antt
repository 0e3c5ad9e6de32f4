-- The cache of the times, both ways.
use Rattle.std.proofs.Common.{◌≡◌, ℕ, Bool, true, false, T, ◌&&◌, List, [], ◌∷◌, ◌++◌, Option, Some, None, IfSome, map, length, drop, refl, sym, ap, ◌∙◌, subst, append_assoc, arith}
use Rattle.std.specs.Fmt.{decimal}
use Rattle.std.specs.List.{All, AllByRecursion, filter, flat_map}
use Rattle.std.specs.List.Sorted.{IsStrictlySortedBy}
use Rattle.std.specs.Ordering.{is_lt, ordering_reverse}
use Rattle.std.specs.FinMap as fin
use Rattle.std.specs.FinMap.{FinMap, find, is_sorted, entries_sorted, from_entries_push, get-entries, same_entries_map}
use Rattle.std.specs.FinMap.Entries.{below_all}
use Rattle.std.specs.Cmp.{tied_itself}
use Rattle.std.specs.declared.cmp.Ordering.{Ordering}
use Rattle.std.specs.declared.cmp.Ordering.TheVariants.{Less, Equal, Greater}
use Rattle.std.proofs.lemmas.Fmt.{decimal_injective}
use Rattle.std.proofs.lemmas.List.{append-nil}
use Rattle.std.proofs.lemmas.List.Elements.{All-nil, All-cons, All-head, All-tail, All-push, All-weaker}
use Rattle.sub_number.specs.Texts.{IsShortText}
use Rattle.sub_number.specs.Lines.{with_newline}
use Rattle.outcome_fold.specs.declared.row.Row.{Row}
use Rattle.outcome_fold.specs.Order.{text_cmp, text_table, in_byte_order, without}
use Rattle.outcome_fold.specs.Answers.{ids_of, row_fails, failing_of, passed_of}
use Rattle.outcome_fold.proofs.OrderLemmas.{texts_total, exact_texts}
use Rattle.outcome_fold.proofs.TableLemmas.{entries_in_order}
use Rattle.run_shelf.specs.Bases.{Base}
use Rattle.run_shelf.specs.IdFiles.{with_zero, heading, Lacks, IsCutAtMark, SpellsDecimal, BeginsWithHeading}
use Rattle.run_ledger.specs.Caches.{time_entry, times_title, IsTimed, IsTimesCache}
use Rattle.run_ledger.specs.Cuts.{BeginsWithTime, AreTimeEntries, HasTimed, last_id, IsTimedAt, entry_if_timed, entry_at}
use Rattle.run_ledger.specs.Ledger.{RunRows, failing_behind, failing_from, failing_after}
use Rattle.run_ledger.proofs.FormLemmas.{cut_same, has_mark, decimal_digits, no_zero, sorted_front}
use Rattle.run_ledger.proofs.CacheLemmas.{begins, same_heading}
use Rattle.run_ledger.proofs.OrderedLemmas.{last_of_ids, empty_of, sorted_push, sorted_last}

-- one entry, cut at its zero bytes
pub one_time : (id : List ℕ) (nanos : ℕ) (rest : List ℕ) → time_entry (id, nanos) ++ rest ≡ id ++ 0 ∷ (decimal nanos ++ 0 ∷ rest)
one_time id nanos rest =
    append_assoc (with_zero id) (with_zero (decimal nanos)) rest
    ∙ append_assoc id (0 ∷ []) (with_zero (decimal nanos) ++ rest)
    ∙ ap (λ l. id ++ 0 ∷ l) (append_assoc (decimal nanos) (0 ∷ []) rest)

-- why bytes begin with no entry
module _ (bytes front behind : List ℕ) (cut : IsCutAtMark 0 bytes front behind) where
  behind_is : (id : List ℕ) (nanos : ℕ) (rest : List ℕ) → BeginsWithTime bytes id nanos rest → behind ≡ decimal nanos ++ 0 ∷ rest
  behind_is id nanos rest timed = sym (cut_same 0 front id behind (decimal nanos ++ 0 ∷ rest) cut.first timed.plain (sym cut.is ∙ timed.is ∙ one_time id nanos rest)).1

  pub no_digits : Lacks 0 behind → (id : List ℕ) (nanos : ℕ) (rest : List ℕ) → BeginsWithTime bytes id nanos rest → ⊥
  no_digits lacks id nanos rest timed = has_mark 0 (decimal nanos) rest (subst (Lacks 0) (behind_is id nanos rest timed) lacks)

  module _ (digits after : List ℕ) (again : IsCutAtMark 0 behind digits after) where
    pub no_time : ((number : ℕ) → SpellsDecimal digits number → ⊥) → (id : List ℕ) (nanos : ℕ) (rest : List ℕ) → BeginsWithTime bytes id nanos rest → ⊥
    no_time none id nanos rest timed =
        let parts = cut_same 0 digits (decimal nanos) after rest again.first (decimal_digits 0 nanos (omega arith) timed.small) (sym again.is ∙ behind_is id nanos rest timed) in
        none nanos (record { is = sym parts.0; small = timed.small })

    pub has_time : (number : ℕ) → SpellsDecimal digits number → BeginsWithTime bytes front number after
    has_time number spells = record {
      is = cut.is ∙ ap (λ l. front ++ 0 ∷ l) (again.is ∙ ap (λ (l : List ℕ). l ++ 0 ∷ after) spells.is) ∙ sym (one_time front number after);
      plain = cut.first;
      small = spells.small;
    }

pub no_id : (bytes : List ℕ) → Lacks 0 bytes → (id : List ℕ) (nanos : ℕ) (rest : List ℕ) → BeginsWithTime bytes id nanos rest → ⊥
no_id bytes lacks id nanos rest timed = has_mark 0 id (decimal nanos ++ 0 ∷ rest) (subst (Lacks 0) (timed.is ∙ one_time id nanos rest) lacks)

-- ---- entries one after another

abbrev Timed : Type 0
Timed = List ℕ × ℕ

many_times : (e : Timed) (es : List Timed) (rest : List ℕ) → flat_map time_entry (e ∷ es) ++ rest ≡ e.0 ++ 0 ∷ (decimal e.1 ++ 0 ∷ (flat_map time_entry es ++ rest))
many_times e es rest = append_assoc (time_entry e) (flat_map time_entry es) rest ∙ one_time e.0 e.1 (flat_map time_entry es ++ rest)

marked : (xs r : List ℕ) → [] ≡ xs ++ 0 ∷ r → ⊥
marked [] r is = omega (arith, ap length is)
marked (x ∷ xs) r is = omega (arith, ap length is)

entry_begins : (e : Timed) (rest : List ℕ) → IsTimed e → BeginsWithTime (time_entry e ++ rest) e.0 e.1 rest
entry_begins e rest timed = record { is = refl; plain = no_zero e.0 timed.text; small = timed.time }

-- bytes begin with one entry alone
same_entry : (bytes id other rest others : List ℕ) (nanos also : ℕ) → BeginsWithTime bytes id nanos rest → BeginsWithTime bytes other also others → (other ≡ id) × (also ≡ nanos) × (others ≡ rest)
same_entry bytes id other rest others nanos also one two =
    let parts = cut_same 0 id other (decimal nanos ++ 0 ∷ rest) (decimal also ++ 0 ∷ others) one.plain two.plain (sym (one_time id nanos rest) ∙ sym one.is ∙ two.is ∙ one_time other also others) in
    let last = cut_same 0 (decimal nanos) (decimal also) rest others (decimal_digits 0 nanos (omega arith) one.small) (decimal_digits 0 also (omega arith) two.small) (sym parts.1) in
    (parts.0, decimal_injective also nanos two.small one.small last.0, last.1)

pub times_begin : (es others : List Timed) (rest : List ℕ) → All IsTimed es → All IsTimed others → flat_map time_entry es ++ rest ≡ flat_map time_entry others
    → (more : List Timed) × (others ≡ es ++ more) × (rest ≡ flat_map time_entry more)
times_begin [] others rest each also same = (others, refl, same)
times_begin (e ∷ es) [] rest each also same = absurd (marked e.0 (decimal e.1 ++ 0 ∷ (flat_map time_entry es ++ rest)) (sym same ∙ many_times e es rest))
times_begin (e ∷ es) (o ∷ others) rest each also same =
    let one : BeginsWithTime (flat_map time_entry (o ∷ others)) e.0 e.1 (flat_map time_entry es ++ rest) =
    record { is = sym same ∙ append_assoc (time_entry e) (flat_map time_entry es) rest; plain = no_zero e.0 (All-head IsTimed e es each).text; small = (All-head IsTimed e es each).time } in
    let parts = same_entry (flat_map time_entry (o ∷ others)) e.0 o.0 (flat_map time_entry es ++ rest) (flat_map time_entry others) e.1 o.1 one (entry_begins o (flat_map time_entry others) (All-head IsTimed o others also)) in
    let begun = times_begin es others rest (All-tail IsTimed e es each) (All-tail IsTimed o others also) (sym parts.2) in
    (begun.0, (λ i. (parts.0 i, parts.1 i) ∷ begun.1 i), begun.2)

-- ---- the order of their ids

abbrev keys : List Timed → List (List ℕ)
keys es = map (λ e. e.0) es

less_of : (o : Ordering) → T (is_lt o) → o ≡ Less
less_of Less is = refl
less_of Equal is = absurd is
less_of Greater is = absurd is

left_of : (a b : Bool) → T (a && b) → T a
left_of true b t = tt
left_of false b t = absurd t

right_of : (a b : Bool) → T (a && b) → T b
right_of true b t = t
right_of false b t = absurd t

pub keys_sorted : {V : Type 0} (es : List (List ℕ × V)) → T (is_sorted text_cmp es) → IsStrictlySortedBy text_cmp (map (λ e. e.0) es)
unfolding IsStrictlySortedBy
keys_sorted [] sorted = tt
keys_sorted {V = V} (e ∷ es) sorted = (below es (left_of _ _ sorted), keys_sorted es (right_of _ _ sorted))
  where
    below : (es : List (List ℕ × V)) → T (below_all text_cmp e.0 es) → AllByRecursion (λ y. text_cmp e.0 y ≡ Less) (map (λ f. f.0) es)
    below [] all = tt
    below (f ∷ es) all = (less_of (text_cmp e.0 f.0) (left_of _ _ all), below es (right_of _ _ all))

last_is : (es : List Timed) → last_id es ≡ last_of_ids (keys es)
unfolding last_of_ids
last_is [] = refl
last_is (e ∷ []) = refl
last_is (e ∷ f ∷ es) = last_is (f ∷ es)

last_push : (es : List Timed) (e : Timed) → last_id (es ++ e ∷ []) ≡ Some e.0
last_push [] e = refl
last_push (f ∷ []) e = refl
last_push (f ∷ g ∷ es) e = last_push (g ∷ es) e

keys_push : (es more : List Timed) (e : Timed) → keys (es ++ e ∷ more) ≡ keys es ++ e.0 ∷ keys more
keys_push [] more e = refl
keys_push (f ∷ es) more e = ap (λ l. f.0 ∷ l) (keys_push es more e)

if_last : (o : Option (List ℕ)) (P : List ℕ → Type 0) → ((l : List ℕ) → o ≡ Some l → P l) → IfSome o P
if_last None P each = tt
if_last (Some l) P each = each l refl

single : (id : List ℕ) → IsStrictlySortedBy text_cmp (id ∷ [])
unfolding IsStrictlySortedBy
single id = (tt, tt)

sorted_behind : (ids : List (List ℕ)) (id : List ℕ) → IsStrictlySortedBy text_cmp ids → IfSome (last_of_ids ids) (λ l. text_cmp l id ≡ Less) → IsStrictlySortedBy text_cmp (ids ++ id ∷ [])
sorted_behind ids id sorted less = at (last_of_ids ids) refl less
  where
    at : (o : Option (List ℕ)) → last_of_ids ids ≡ o → IfSome o (λ l. text_cmp l id ≡ Less) → IsStrictlySortedBy text_cmp (ids ++ id ∷ [])
    at None is none = subst (λ (l : List (List ℕ)). IsStrictlySortedBy text_cmp (l ++ id ∷ [])) (sym (empty_of ids is)) (single id)
    at (Some last) is below = sorted_push ids id last sorted is below

all_below : (ids : List (List ℕ)) (id : List ℕ) → IsStrictlySortedBy text_cmp (ids ++ id ∷ []) → AllByRecursion (λ k. text_cmp k id ≡ Less) ids
unfolding IsStrictlySortedBy
all_below [] id sorted = tt
all_below (x ∷ ids) id sorted = (last_less ids sorted.0, all_below ids id sorted.1)
  where
    last_less : (ids : List (List ℕ)) → AllByRecursion (λ y. text_cmp x y ≡ Less) (ids ++ id ∷ []) → text_cmp x id ≡ Less
    last_less [] all = all.0
    last_less (y ∷ ids) all = last_less ids all.1

find_none : (es : List Timed) (id : List ℕ) → AllByRecursion (λ k. text_cmp k id ≡ Less) (keys es) → find text_cmp id es ≡ None
find_none [] id all = refl
find_none (e ∷ es) id all = rw (texts_total.antisymm id e.0 ∙ ap ordering_reverse all.0) (find_none es id all.1)

-- ---- what was read so far

pub nothing_timed : (bytes : List ℕ) (times : FinMap text_cmp ℕ) → times ≡ fin.empty → HasTimed bytes bytes times None
unfolding IsStrictlySortedBy
nothing_timed bytes times is = record { entries = []; is = refl; each = All-nil IsTimed; ordered = tt; made = is; at = refl }

module _ (bytes rest : List ℕ) (times : FinMap text_cmp ℕ) (last : Option (List ℕ)) (so_far : HasTimed bytes rest times last) where
  -- the next entry, where the bytes are entries
  pub next_is : (id : List ℕ) (nanos : ℕ) (behind : List ℕ) → BeginsWithTime rest id nanos behind → (others : FinMap text_cmp ℕ) → AreTimeEntries bytes others → IsShortText id × IfSome last (λ l. text_cmp l id ≡ Less)
  next_is id nanos behind begins others are =
      let begun = times_begin so_far.entries (fin.entries others) rest so_far.each are.each (sym so_far.is ∙ are.is) in
      there begun.0 begun.1 begun.2
    where
      there : (more : List Timed) → fin.entries others ≡ so_far.entries ++ more → rest ≡ flat_map time_entry more → IsShortText id × IfSome last (λ l. text_cmp l id ≡ Less)
      there [] all pieces = absurd (marked id (decimal nanos ++ 0 ∷ behind) (sym pieces ∙ begins.is ∙ one_time id nanos behind))
      there (e ∷ more) all pieces =
          let each : All IsTimed (so_far.entries ++ e ∷ more) = subst (All IsTimed) all are.each in
          let timed : IsTimed e = item so_far.entries e more each in
          let same = same_entry rest id e.0 behind (flat_map time_entry more) nanos e.1 begins (subst (λ (l : List ℕ). BeginsWithTime l e.0 e.1 (flat_map time_entry more)) (sym pieces) (entry_begins e (flat_map time_entry more) timed)) in
          let sorted : IsStrictlySortedBy text_cmp (keys so_far.entries ++ e.0 ∷ keys more) =
          subst (IsStrictlySortedBy text_cmp) (ap keys all ∙ keys_push so_far.entries more e) (keys_sorted (fin.entries others) (entries_sorted others)) in (
            subst IsShortText same.0 timed.text,
            if_last last (λ l. text_cmp l id ≡ Less) (λ l is. subst (λ (k : List ℕ). text_cmp l k ≡ Less) same.0 (sorted_last (keys so_far.entries) e.0 l (sorted_front (keys so_far.entries) e.0 (keys more) sorted) (sym (last_is so_far.entries) ∙ sym so_far.at ∙ is))),
          )
        where
          item : (es : List Timed) (e : Timed) (more : List Timed) → All IsTimed (es ++ e ∷ more) → IsTimed e
          item [] e more all = All-head IsTimed e more all
          item (f ∷ es) e more all = item es e more (All-tail IsTimed f (es ++ e ∷ more) all)

  pub more_timed : (id : List ℕ) (nanos : ℕ) (behind : List ℕ) (new : FinMap text_cmp ℕ) → BeginsWithTime rest id nanos behind → IfSome last (λ l. text_cmp l id ≡ Less) → IsShortText id → new ≡ fin.insert times id nanos → HasTimed bytes behind new (Some id)
  more_timed id nanos behind new begins above text is =
      let sorted : IsStrictlySortedBy text_cmp (keys so_far.entries ++ id ∷ []) =
      sorted_behind (keys so_far.entries) id so_far.ordered (subst (λ (o : Option (List ℕ)). IfSome o (λ l. text_cmp l id ≡ Less)) (so_far.at ∙ last_is so_far.entries) above) in
      record {
        entries = so_far.entries ++ (id, nanos) ∷ [];
        is = so_far.is ∙ ap (λ l. flat_map time_entry so_far.entries ++ l) begins.is ∙ pushed so_far.entries;
        each = All-push IsTimed so_far.entries (id, nanos) so_far.each (record { text = text; time = begins.small });
        ordered = subst (IsStrictlySortedBy text_cmp) (sym (keys_push so_far.entries [] (id, nanos))) sorted;
        made = is ∙ ap (λ m. fin.insert m id nanos) so_far.made ∙ sym (from_entries_push texts_total exact_texts so_far.entries id nanos (find_none so_far.entries id (all_below (keys so_far.entries) id sorted)));
        at = sym (last_push so_far.entries (id, nanos));
      }
    where
      pushed : (es : List Timed) → flat_map time_entry es ++ (time_entry (id, nanos) ++ behind) ≡ flat_map time_entry (es ++ (id, nanos) ∷ []) ++ behind
      pushed [] = ap (λ (l : List ℕ). l ++ behind) (sym (append-nil (time_entry (id, nanos))))
      pushed (e ∷ es) =
          append_assoc (time_entry e) (flat_map time_entry es) (time_entry (id, nanos) ++ behind)
          ∙ ap (λ l. time_entry e ++ l) (pushed es)
          ∙ sym (append_assoc (time_entry e) (flat_map time_entry (es ++ (id, nanos) ∷ [])) behind)

  pub all_timed : rest ≡ [] → AreTimeEntries bytes times
  all_timed none =
      let same : fin.entries times ≡ so_far.entries = ap fin.entries so_far.made ∙ entries_in_order texts_total so_far.entries so_far.ordered in
      record {
        is = so_far.is ∙ ap (λ l. flat_map time_entry so_far.entries ++ l) none ∙ append-nil (flat_map time_entry so_far.entries) ∙ ap (flat_map time_entry) (sym same);
        each = subst (All IsTimed) (sym same) so_far.each;
      }

  pub not_timed : ((id : List ℕ) (nanos : ℕ) (behind : List ℕ) → BeginsWithTime rest id nanos behind → ⊥) → (rest ≡ [] → ⊥) → (others : FinMap text_cmp ℕ) → AreTimeEntries bytes others → ⊥
  not_timed none some others are =
      let begun = times_begin so_far.entries (fin.entries others) rest so_far.each are.each (sym so_far.is ∙ are.is) in
      there begun.0 begun.1 begun.2
    where
      there : (more : List Timed) → fin.entries others ≡ so_far.entries ++ more → rest ≡ flat_map time_entry more → ⊥
      there [] all pieces = some pieces
      there (e ∷ more) all pieces =
          let timed : IsTimed e = item so_far.entries e more (subst (All IsTimed) all are.each) in
          none e.0 e.1 (flat_map time_entry more) (subst (λ (l : List ℕ). BeginsWithTime l e.0 e.1 (flat_map time_entry more)) (sym pieces) (entry_begins e (flat_map time_entry more) timed))
        where
          item : (es : List Timed) (e : Timed) (more : List Timed) → All IsTimed (es ++ e ∷ more) → IsTimed e
          item [] e more all = All-head IsTimed e more all
          item (f ∷ es) e more all = item es e more (All-tail IsTimed f (es ++ e ∷ more) all)

-- ---- the whole cache

times_of_form : (bytes : List ℕ) (covers : ℕ) (times : FinMap text_cmp ℕ) → IsTimesCache bytes covers times → BeginsWithHeading (with_newline times_title) bytes covers (flat_map time_entry (fin.entries times))
times_of_form bytes covers times cache = begins times_title (flat_map time_entry (fin.entries times)) bytes covers cache.is cache.number

pub no_times_heading : (bytes : List ℕ) → ((covers : ℕ) (rest : List ℕ) → BeginsWithHeading (with_newline times_title) bytes covers rest → ⊥) → (covers : ℕ) (times : FinMap text_cmp ℕ) → IsTimesCache bytes covers times → ⊥
no_times_heading bytes none covers times cache = none covers (flat_map time_entry (fin.entries times)) (times_of_form bytes covers times cache)

pub no_times_entries : (bytes : List ℕ) (number : ℕ) (rest : List ℕ) → BeginsWithHeading (with_newline times_title) bytes number rest → ((times : FinMap text_cmp ℕ) → AreTimeEntries rest times → ⊥) → (covers : ℕ) (times : FinMap text_cmp ℕ)
    → IsTimesCache bytes covers times → ⊥
no_times_entries bytes number rest head none covers times cache =
    none times (record {
      is = sym (same_heading (with_newline times_title) bytes rest (flat_map time_entry (fin.entries times)) number covers head (times_of_form bytes covers times cache)).1;
      each = cache.each;
    })

pub is_times_cache : (bytes : List ℕ) (number : ℕ) (rest : List ℕ) → BeginsWithHeading (with_newline times_title) bytes number rest → (times : FinMap text_cmp ℕ) → AreTimeEntries rest times → IsTimesCache bytes number times
is_times_cache bytes number rest head times entries = record {
  is = head.is ∙ sym (append_assoc (with_newline times_title) (with_newline (decimal number)) rest) ∙ ap (λ l. heading times_title number ++ l) entries.is;
  number = head.small;
  each = entries.each;
}

-- ---- the entries, told by the ids

finds_more : (e : Timed) (all es : List Timed) → AllByRecursion (λ y. text_cmp e.0 y ≡ Less) (keys es) → All (λ f. find text_cmp f.0 all ≡ Some f.1) es → All (λ f. find text_cmp f.0 (e ∷ all) ≡ Some f.1) es
finds_more e all [] below finds = All-nil (λ f. find text_cmp f.0 (e ∷ all) ≡ Some f.1)
finds_more e all (f ∷ es) below finds =
    let here : find text_cmp f.0 (e ∷ all) ≡ Some f.1 = rw (texts_total.antisymm f.0 e.0 ∙ ap ordering_reverse below.0) (All-head (λ g. find text_cmp g.0 all ≡ Some g.1) f es finds) in
    All-cons (λ g. find text_cmp g.0 (e ∷ all) ≡ Some g.1) f es here (finds_more e all es below.1 (All-tail (λ g. find text_cmp g.0 all ≡ Some g.1) f es finds))

finds_each : (es : List Timed) → IsStrictlySortedBy text_cmp (keys es) → All (λ f. find text_cmp f.0 es ≡ Some f.1) es
unfolding IsStrictlySortedBy
finds_each [] sorted = All-nil (λ f. find text_cmp f.0 [] ≡ Some f.1)
finds_each (e ∷ es) sorted =
    let here : find text_cmp e.0 (e ∷ es) ≡ Some e.1 = rw (tied_itself texts_total e.0) refl in
    All-cons (λ f. find text_cmp f.0 (e ∷ es) ≡ Some f.1) e es here (finds_more e es es sorted.0 (finds_each es sorted.1))

by_id : (times : FinMap text_cmp ℕ) (es : List Timed) → All (λ f. fin.get times f.0 ≡ Some f.1) es → flat_map (entry_at times) (keys es) ≡ flat_map time_entry es
by_id times [] finds = refl
by_id times (e ∷ es) finds =
    ap (λ o. entry_if_timed e.0 o ++ flat_map (entry_at times) (keys es)) (All-head (λ f. fin.get times f.0 ≡ Some f.1) e es finds)
    ∙ ap (λ l. time_entry e ++ l) (by_id times es (All-tail (λ f. fin.get times f.0 ≡ Some f.1) e es finds))

pub entries_by_id : (times : FinMap text_cmp ℕ) → flat_map (entry_at times) (fin.keys times) ≡ flat_map time_entry (fin.entries times)
entries_by_id times =
    by_id times (fin.entries times)
    (All-weaker (λ f. find text_cmp f.0 (fin.entries times) ≡ Some f.1) (λ f. fin.get times f.0 ≡ Some f.1) (λ f is. get-entries times f.0 ∙ is) (fin.entries times)
    (finds_each (fin.entries times) (keys_sorted (fin.entries times) (entries_sorted times))))

-- the ids in order, which are texts with their times
timed_each : (times : FinMap text_cmp ℕ) (es : List Timed) → All (λ f. fin.get times f.0 ≡ Some f.1) es → All (IsTimedAt times) (keys es) → All IsTimed es
timed_each times [] finds each = All-nil IsTimed
timed_each times (e ∷ es) finds each =
    All-cons IsTimed e es
    (subst (λ (o : Option ℕ). IfSome o (λ nanos. IsTimed (e.0, nanos))) (All-head (λ f. fin.get times f.0 ≡ Some f.1) e es finds) (All-head (IsTimedAt times) e.0 (keys es) each))
    (timed_each times es (All-tail (λ f. fin.get times f.0 ≡ Some f.1) e es finds) (All-tail (IsTimedAt times) e.0 (keys es) each))

pub all_are_timed : (times : FinMap text_cmp ℕ) → All (IsTimedAt times) (fin.keys times) → All IsTimed (fin.entries times)
all_are_timed times each =
    timed_each times (fin.entries times)
    (All-weaker (λ f. find text_cmp f.0 (fin.entries times) ≡ Some f.1) (λ f. fin.get times f.0 ≡ Some f.1) (λ f is. get-entries times f.0 ∙ is) (fin.entries times)
    (finds_each (fin.entries times) (keys_sorted (fin.entries times) (entries_sorted times))))
    each

-- it holds one thing
pub one_times : (bytes : List ℕ) (covers also : ℕ) (times others : FinMap text_cmp ℕ) → IsTimesCache bytes covers times → IsTimesCache bytes also others → (also ≡ covers) × (others ≡ times)
one_times bytes covers also times others cache other =
    let same = same_heading (with_newline times_title) bytes (flat_map time_entry (fin.entries times)) (flat_map time_entry (fin.entries others)) covers also (times_of_form bytes covers times cache) (times_of_form bytes also others other) in
    let begun = times_begin (fin.entries times) (fin.entries others) [] cache.each other.each (append-nil (flat_map time_entry (fin.entries times)) ∙ sym same.1) in
    (same.0, same_entries_map others times (begun.1 ∙ ap (λ (l : List Timed). fin.entries times ++ l) (none begun.0 begun.2) ∙ append-nil (fin.entries times)))
  where
    none : (more : List Timed) → [] ≡ flat_map time_entry more → more ≡ []
    none [] is = refl
    none (e ∷ more) is = absurd (marked e.0 (decimal e.1 ++ 0 ∷ (flat_map time_entry more ++ [])) (is ∙ sym (append-nil (flat_map time_entry (e ∷ more))) ∙ many_times e more []))

-- ---- the failing set is in order

set_in_order : (texts : List (List ℕ)) → IsStrictlySortedBy text_cmp (in_byte_order texts)
set_in_order texts = keys_sorted (fin.entries (text_table texts)) (entries_sorted (text_table texts))

behind_in_order : (earlier : List (List ℕ)) (partial : Bool) (rows : List Row) → IsStrictlySortedBy text_cmp (failing_behind earlier (record { partial = partial; rows = rows }))
behind_in_order earlier true rows = set_in_order (without earlier (passed_of rows) ++ failing_of rows)
behind_in_order earlier false rows = set_in_order (ids_of (filter row_fails rows))

from_in_order : (earlier : List (List ℕ)) (entries : List RunRows) → IsStrictlySortedBy text_cmp earlier → IsStrictlySortedBy text_cmp (failing_from earlier entries)
from_in_order earlier [] ordered = ordered
from_in_order earlier (e ∷ entries) ordered = from_in_order (failing_behind earlier e) entries (behind_in_order earlier e.partial e.rows)

pub in_order : (base : Base) (entries : List RunRows) → IsStrictlySortedBy text_cmp base.ids → IsStrictlySortedBy text_cmp (failing_after base entries)
in_order base entries ordered = from_in_order base.ids (drop base.count entries) ordered

-- Cases that are gathered by route, row by row.
use Rattle.std.proofs.Common.{◌≡◌, ℕ, zero, suc, ◌+◌, ◌<◌, Bool, true, false, true≢false, ◌||◌, cond, List, [], ◌∷◌, ◌++◌, Option, Some, None, map, is_some, take, length, get_or, refl, sym, ◌∙◌, ap, append-nil, length-append, map-id, arith}
use Rattle.std.specs.FinMap as fin
use Rattle.std.specs.FinMap.{put, entries-insert, len-entries, len-empty}
use Rattle.std.specs.FinMap.Entries.{by_order}
use Rattle.std.specs.BTreeMap.{is_at}
use Rattle.std.specs.Map.{lookup}
use Rattle.std.specs.Cmp.{IsTotalOrder, eq_by_cmp_equiv}
use Rattle.std.specs.Ordering.{eq_by_cmp}
use Rattle.std.specs.declared.cmp.Ordering.{Ordering}
use Rattle.std.specs.declared.cmp.Ordering.TheVariants.{Less, Equal, Greater}
use Rattle.std.specs.Iterator.{Drains}
use Rattle.std.specs.List.{filter, list_any, flat_map, count_by, sum_by, splice}
use Rattle.std.specs.Option.{unwrap_or}
use Rattle.std.specs.Vec.Iter.{into_iter_items, into_iter_len, into_iter_steps}
use Rattle.std.specs.declared.vec.IntoIter.{IntoIter}
use Rattle.std.proofs.lemmas.Iterator.{items_from_drains}
use Rattle.std.proofs.lemmas.Iterator.Adapters.{YieldsList-from_vec}
use Rattle.std.proofs.lemmas.List.{take_more}
use Rattle.std.proofs.lemmas.List.Concat.{flat_map-append}
use Rattle.std.proofs.lemmas.List.Elements.{filter-append}
use Rattle.std.proofs.lemmas.List.Folds.{list_any-append}
use Rattle.std.proofs.lemmas.List.Sums.{sum_by-append, sum_by-cons}
use Rattle.outcome_fold.specs.declared.row.Row.{Row}
use Rattle.outcome_fold.specs.declared.row.Counts.{Counts}
use Rattle.outcome_fold.specs.Answers.{row_fails, row_passes, is_skipped, is_counted, total_time, counted_rows, counts_in, counts_of}
use Rattle.outcome_fold.specs.Order.{route_cmp, table}
use Rattle.outcome_fold.specs.Rows.{is_under, by_route}
use Rattle.outcome_fold.specs.Grouped.{group_table}
use Rattle.outcome_fold.proofs.OrderLemmas.{routes_total, exact_routes}
use Rattle.outcome_fold.proofs.TableLemmas.{get-table, table_push, inserted, lookup_in_map, entries_in_order, none_of_length}
use Rattle.outcome_fold.proofs.FoldLemmas.{filter_push}
use Rattle.outcome_fold.proofs.GroupLemmas.{map_push}
use Rattle.junit_xml.specs.Documents.{case_of, head_of, tail_text, junit_of}
use Rattle.filter_cli.specs.JunitCases.{Cases, cases_of, case_table, joined_times, joined_counts}
use Rattle.junit_xml.proofs.AppendLemmas.{more}

abbrev Route : Type 0
Route = Option (List ℕ)

abbrev Entries : Type 0
Entries = List (Route × Cases)

-- ---- one row more of a route

pub cases_push : (rows : List Row) (row : Row) (cases next : Cases) → cases ≡ cases_of rows → next.counts ≡ counts_of [] (rows ++ row ∷ []) → next.text ≡ cases.text ++ case_of row → next ≡ cases_of (rows ++ row ∷ [])
cases_push rows row cases next is counts grown =
    let text : next.text ≡ flat_map case_of (rows ++ row ∷ []) =
    grown ∙ ap (λ (c : Cases). c.text ++ case_of row) is
    ∙ ap (λ (l : List ℕ). flat_map case_of rows ++ l) (sym (append-nil (case_of row))) ∙ sym (flat_map-append case_of rows (row ∷ [])) in
    λ i. record { counts = counts i; text = text i }

-- ---- a route's cases among all

some_at : (b : Bool) (x y : Cases) → Some x ≡ cond b (Some y) None → x ≡ y
some_at true x y is = ap (λ (o : Option Cases). unwrap_or o x) is
some_at false x y is = absurd (true≢false (ap is_some is))

none_at : (b : Bool) (y : Cases) → None ≡ cond b (Some y) None → b ≡ false
none_at true y is = absurd (true≢false (sym (ap is_some is)))
none_at false y is = refl

none_under : (route : Route) (rows : List Row) → list_any (eq_by_cmp route_cmp route) (map (λ row. row.route) rows) ≡ false → filter (is_under route) rows ≡ []
none_under route [] none = refl
none_under route (row ∷ rows) none = elim (is_under route row) as (λ b. (b || list_any (eq_by_cmp route_cmp route) (map (λ row. row.route) rows)) ≡ false → cond b (row ∷ filter (is_under route) rows) (filter (is_under route) rows) ≡ []) [ true ↦ λ never. absurd (true≢false never) | false ↦ none_under route rows ] none

-- what a look-up finds
found_is : (rows : List Row) (route : Route) (es : Entries) → fin.from_entries {R = route_cmp} es ≡ case_table rows
    → lookup (is_at (route_cmp route)) es ≡ cond (list_any (eq_by_cmp route_cmp route) (map (λ row. row.route) rows)) (Some (cases_of (filter (is_under route) rows))) None
found_is rows route es has =
    lookup_in_map routes_total route es ∙ ap (λ m. fin.get m route) has
    ∙ get-table routes_total exact_routes (λ route. cases_of (filter (is_under route) rows)) (map (λ row. row.route) rows) route

pub found_cases : (rows : List Row) (route : Route) (es : Entries) (cases : Cases) → fin.from_entries {R = route_cmp} es ≡ case_table rows → Some cases ≡ lookup (is_at (route_cmp route)) es → cases ≡ cases_of (filter (is_under route) rows)
found_cases rows route es cases has found = some_at (list_any (eq_by_cmp route_cmp route) (map (λ row. row.route) rows)) cases (cases_of (filter (is_under route) rows)) (found ∙ found_is rows route es has)

found_none : (rows : List Row) (route : Route) (es : Entries) → fin.from_entries {R = route_cmp} es ≡ case_table rows → None ≡ lookup (is_at (route_cmp route)) es → filter (is_under route) rows ≡ []
found_none rows route es has found = none_under route rows (none_at (list_any (eq_by_cmp route_cmp route) (map (λ row. row.route) rows)) (cases_of (filter (is_under route) rows)) (found ∙ found_is rows route es has))

table_more : (rows : List Row) (row : Row) → case_table (rows ++ row ∷ []) ≡ fin.insert (case_table rows) row.route (cases_of (filter (is_under row.route) rows ++ row ∷ []))
table_more rows row =
    ap (table {R = route_cmp} (λ route. cases_of (filter (is_under route) (rows ++ row ∷ [])))) (map_push (λ row. row.route) rows row)
    ∙ table_push routes_total exact_routes (λ route. cases_of (filter (is_under route) rows)) (λ route. cases_of (filter (is_under route) (rows ++ row ∷ []))) (map (λ row. row.route) rows) row.route
    (λ q other among. ap cases_of (filter_push (is_under q) rows row ∙ ap (λ b. filter (is_under q) rows ++ cond b (row ∷ []) []) other ∙ append-nil (filter (is_under q) rows)))
    ∙ ap (λ l. fin.insert (case_table rows) row.route (cases_of l))
    (filter_push (is_under row.route) rows row ∙ ap (λ b. filter (is_under row.route) rows ++ cond b (row ∷ []) []) ((eq_by_cmp_equiv routes_total).refl row.route))

-- a row that is put to the cases that were found
pub put_there : (rows : List Row) (row : Row) (old new : Entries) (grown : Cases) → ((q : Route) → lookup (is_at (route_cmp q)) new ≡ cond (is_at (route_cmp row.route) q) (Some grown) (lookup (is_at (route_cmp q)) old))
    → fin.from_entries {R = route_cmp} old ≡ case_table rows → grown ≡ cases_of (filter (is_under row.route) rows ++ row ∷ []) → fin.from_entries {R = route_cmp} new ≡ case_table (rows ++ row ∷ [])
put_there rows row old new grown updates has is =
    inserted routes_total exact_routes old new row.route grown updates
    ∙ (λ i. fin.insert (has i) row.route (is i)) ∙ sym (table_more rows row)

-- the first row of a route
pub put_first : (rows : List Row) (row : Row) (es : Entries) → fin.from_entries {R = route_cmp} es ≡ case_table rows → None ≡ lookup (is_at (route_cmp row.route)) es
    → fin.insert (fin.from_entries {R = route_cmp} es) row.route (cases_of (row ∷ [])) ≡ case_table (rows ++ row ∷ [])
put_first rows row es has found =
    let none : [] ≡ filter (is_under row.route) rows = sym (found_none rows row.route es has found) in
    (λ i. fin.insert (has i) row.route (cases_of (none i ++ row ∷ []))) ∙ sym (table_more rows row)

-- ---- the cases of all routes

abbrev mapped : {K V W : Type 0} → (V → W) → List (K × V) → List (K × W)
mapped h es = map (λ e. (e.0, h e.1)) es

put_mapped : {K V W : Type 0} (R : K → K → Ordering) (h : V → W) (k : K) (v : V) (es : List (K × V)) → put R k (h v) (mapped h es) ≡ mapped h (put R k v es)
put_mapped R h k v [] = refl
put_mapped R h k v (e ∷ es) = elim (R k e.0) as (λ o. by_order o ((k, h v) ∷ (e.0, h e.1) ∷ mapped h es) ((e.0, h v) ∷ mapped h es) ((e.0, h e.1) ∷ put R k (h v) (mapped h es)) ≡ mapped h (by_order o ((k, v) ∷ e ∷ es) ((e.0, v) ∷ es) (e ∷ put R k v es))) [
  | Less ↦ refl
  | Equal ↦ refl
  | Greater ↦ ap (λ l. (e.0, h e.1) ∷ l) (put_mapped R h k v es)
]

table_mapped : {K V W : Type 0} {R : K → K → Ordering} (o : IsTotalOrder R) (h : V → W) (f : K → V) (ks : List K) → fin.entries (table {R = R} (λ k. h (f k)) ks) ≡ mapped h (fin.entries (table {R = R} f ks))
table_mapped {V = V} {W = W} {R = R} o h f [] =
    none_of_length _ (sym (len-entries (fin.empty {R = R})) ∙ len-empty R W)
    ∙ ap (mapped h) (sym (none_of_length _ (sym (len-entries (fin.empty {R = R})) ∙ len-empty R V)))
table_mapped {R = R} o h f (k ∷ ks) =
    entries-insert o (table (λ k. h (f k)) ks) k (h (f k)) ∙ ap (put R k (h (f k))) (table_mapped o h f ks)
    ∙ put_mapped R h k (f k) (fin.entries (table f ks)) ∙ ap (mapped h) (sym (entries-insert o (table f ks) k (f k)))

values_mapped : {K V W : Type 0} (h : V → W) (es : List (K × V)) → map (λ e. e.1) (mapped h es) ≡ map h (map (λ e. e.1) es)
values_mapped h [] = refl
values_mapped h (e ∷ es) = ap (λ l. h e.1 ∷ l) (values_mapped h es)

abbrev groups_of : List Row → List (List Row)
groups_of rows = fin.values (group_table rows)

all_cases : (rows : List Row) → fin.values (case_table rows) ≡ map cases_of (groups_of rows)
all_cases rows =
    ap (map (λ e. e.1)) (table_mapped routes_total cases_of (λ route. filter (is_under route) rows) (map (λ row. row.route) rows))
    ∙ values_mapped cases_of (fin.entries (group_table rows))

texts_joined : (groups : List (List Row)) → flat_map (λ cases. cases.text) (map cases_of groups) ≡ flat_map case_of (flat_map (λ group. group) groups)
texts_joined [] = refl
texts_joined (group ∷ groups) = ap (λ l. flat_map case_of group ++ l) (texts_joined groups) ∙ sym (flat_map-append case_of group (flat_map (λ group. group) groups))

-- the values of entries that are in order
pub values_are : (es : Entries) → (fin.entries (fin.from_entries {R = route_cmp} es) ≡ es) → map (λ e. e.1) es ≡ fin.values (fin.from_entries {R = route_cmp} es)
values_are es is = ap (map (λ e. e.1)) (sym is)

-- what is spliced in at the front stands before what was there
pub stands_before : {Z : Type 0} (s : IntoIter ℕ Z) (xs front old new : List ℕ) → into_iter_items s ≡ front → into_iter_len s ≡ length front → Drains (into_iter_steps {X = ℕ} {Z = Z}) s xs → new ≡ splice old 0 0 xs → new ≡ front ++ old
stands_before s xs front old new items len drains is =
    is ∙ ap (λ l. l ++ old) (sym (map-id xs) ∙ items_from_drains xs (drains.1.0, drains.1.1, λ _. (drains.0, drains.1.2)) (YieldsList-from_vec front items len))

-- the document of all
pub document_is : (rows : List Row) (routes : List Cases) (counts : Counts) (old head texts new : List ℕ) → routes ≡ fin.values (case_table rows)
    → ((groups : List (List Row)) → routes ≡ map cases_of groups → counts ≡ counts_of [] (flat_map (λ group. group) groups))
    → head ≡ old ++ head_of counts → texts ≡ head ++ flat_map (λ cases. cases.text) routes → new ≡ texts ++ tail_text → new ≡ old ++ junit_of (by_route rows)
document_is rows routes counts old head texts new are counted first then_cases last =
    let groups = groups_of rows in
    let all : routes ≡ map cases_of groups = are ∙ all_cases rows in
    let total : counts ≡ counts_of [] (by_route rows) = counted groups all in
    let cases : flat_map (λ cases. cases.text) routes ≡ flat_map case_of (by_route rows) = ap (flat_map (λ cases. cases.text)) all ∙ texts_joined groups in
    let front = more old (head_of counts) head texts (flat_map (λ cases. cases.text) routes) first then_cases in
    more old (head_of counts ++ flat_map (λ cases. cases.text) routes) texts new tail_text front last
    ∙ (λ i. old ++ (head_of (total i) ++ cases i ++ tail_text))

-- ---- counts of some rows and of others

abbrev is_timed : Row → Bool
is_timed row = is_some row.nanos

abbrev time_of : Row → ℕ
time_of row = unwrap_or row.nanos 0

none_first : (o : Option ℕ) (any : Bool) (sum : ℕ) → (is_some o || any) ≡ false → (any ≡ false → sum ≡ 0) → unwrap_or o 0 + sum ≡ 0
none_first None any sum none nothing = let rest = nothing none in omega (arith, rest)
none_first (Some n) any sum none nothing = absurd (true≢false none)

none_timed : (rows : List Row) → list_any is_timed rows ≡ false → sum_by time_of rows ≡ 0
none_timed [] none = refl
none_timed (row ∷ rows) none = sum_by-cons time_of row rows ∙ none_first row.nanos (list_any is_timed rows) (sum_by time_of rows) none (none_timed rows)

times_at : (a b : Bool) (n m : ℕ) → (a ≡ false → n ≡ 0) → (b ≡ false → m ≡ 0) → cond (a || b) (Some (n + m)) None ≡ joined_times (cond a (Some n) None) (cond b (Some m) None)
times_at true true n m first second = refl
times_at true false n m first second = let none = second refl in ap Some (omega (arith, none))
times_at false true n m first second = let none = first refl in ap Some (omega (arith, none))
times_at false false n m first second = refl

times_joined : (rows more : List Row) → total_time (rows ++ more) ≡ joined_times (total_time rows) (total_time more)
times_joined rows more =
    (λ i. cond (list_any-append is_timed rows more i) (Some (sum_by-append time_of rows more i)) None)
    ∙ times_at (list_any is_timed rows) (list_any is_timed more) (sum_by time_of rows) (sum_by time_of more) (none_timed rows) (none_timed more)

count_joined : (p : Row → Bool) (rows more : List Row) → count_by p (rows ++ more) ≡ count_by p rows + count_by p more
count_joined p rows more = sum_by-append (λ x. cond (p x) 1 0) rows more

all_counted : (rows more : List Row) → counts_in (rows ++ more) ≡ joined_counts (counts_in rows) (counts_in more)
all_counted rows more =
    let total : length (rows ++ more) ≡ length rows + length more = length-append rows more in
    let passed = count_joined row_passes rows more in
    let failed = count_joined row_fails rows more in
    let skipped = count_joined is_skipped rows more in
    let nanos = times_joined rows more in
    λ i. record { total = total i; passed = passed i; failed = failed i; skipped = skipped i; nanos = nanos i }

counts_joined : (rows more : List Row) → counts_of [] (rows ++ more) ≡ joined_counts (counts_of [] rows) (counts_of [] more)
counts_joined rows more = ap counts_in (filter-append (is_counted []) rows more) ∙ all_counted (counted_rows [] rows) (counted_rows [] more)

group_at : (groups : List (List Row)) (n : ℕ) (cases : Cases) → n < length (map cases_of groups) → cases ≡ get_or (map cases_of groups) n cases → cases ≡ cases_of (get_or groups n [])
group_at [] n cases below is = absurd (omega (arith, below))
group_at (group ∷ groups) zero cases below is = is
group_at (group ∷ groups) (suc n) cases below is = group_at groups n cases (omega (arith, below)) is

map_size : (groups : List (List Row)) → length (map cases_of groups) ≡ length groups
map_size [] = refl
map_size (group ∷ groups) = let rest = map_size groups in omega (arith, rest)

-- one group more
pub counts_more : (groups : List (List Row)) (routes : List Cases) (n : ℕ) (cases : Cases) (counts next : Counts) → routes ≡ map cases_of groups → n < length routes → cases ≡ get_or routes n cases
    → counts ≡ counts_of [] (flat_map (λ group. group) (take n groups)) → next ≡ joined_counts counts cases.counts → next ≡ counts_of [] (flat_map (λ group. group) (take (n + 1) groups))
counts_more groups routes n cases counts next are below is before both =
    let there : n < length (map cases_of groups) = omega (arith, below, ap length are) in
    let group = get_or groups n [] in
    let own : cases ≡ cases_of group = group_at groups n cases there (is ∙ ap (λ l. get_or l n cases) are) in
    let further : take (n + 1) groups ≡ take n groups ++ group ∷ [] = take_more groups n [] (omega (arith, there, map_size groups)) in
    let all : flat_map (λ group. group) (take (n + 1) groups) ≡ flat_map (λ group. group) (take n groups) ++ group =
    ap (flat_map (λ group. group)) further ∙ flat_map-append (λ group. group) (take n groups) (group ∷ []) ∙ ap (λ l. flat_map (λ group. group) (take n groups) ++ l) (append-nil group) in
    both ∙ (λ i. joined_counts (before i) (own i).counts) ∙ sym (counts_joined (flat_map (λ group. group) (take n groups)) group) ∙ ap (counts_of []) (sym all)

-- Rows that are put in order by route are the same rows, and those that pass a test are then in that order too.
use Rattle.std.proofs.Common.{◌≡◌, ℕ, Bool, true, false, not, ◌&&◌, cond, T, max, List, [], ◌∷◌, ◌++◌, Option, Some, None, map, is_some, refl, sym, ◌∙◌, ap, subst, append_assoc, arith}
use Rattle.std.specs.FinMap as fin
use Rattle.std.specs.FinMap.{find, put, is_sorted, same_map, get-entries, entries-insert, entries_sorted, len-entries, len-empty}
use Rattle.std.specs.FinMap.Entries.{below_all, by_order}
use Rattle.std.specs.List.{All, filter, list_any, flat_map}
use Rattle.std.specs.List.Sorted.{IsPermutation}
use Rattle.std.specs.Option.{unwrap_or}
use Rattle.std.specs.Ordering.{is_eq, is_lt, eq_by_cmp}
use Rattle.std.specs.declared.cmp.Ordering.{Ordering}
use Rattle.std.specs.declared.cmp.Ordering.TheVariants.{Less, Equal, Greater}
use Rattle.std.proofs.lemmas.List.Elements.{All-nil, All-append, All-weaker, All-filter, filter-append, filter_passes}
use Rattle.std.proofs.lemmas.List.Sorted.{IsPermutation-refl, IsPermutation-sym, IsPermutation-middle, IsPermutation-push_more, IsPermutation-map, length_permutation, list_any-IsPermutation, sum_by-IsPermutation}
use Rattle.packet_codec.proofs.FilterLemmas.{filter_all, filter_none}
use Rattle.outcome_fold.specs.declared.row.Row.{Row}
use Rattle.outcome_fold.specs.declared.summary.Summary.{Summary}
use Rattle.outcome_fold.specs.Order.{text_cmp, route_cmp, table, in_byte_order}
use Rattle.outcome_fold.specs.Rows.{is_under, by_route}
use Rattle.outcome_fold.specs.Grouped.{group_table, joined_groups}
use Rattle.outcome_fold.specs.Answers.{row_fails, is_run, row_passes, is_skipped, ids_of, longest, longest_times, timed_rows, is_counted, counted_rows, counts_in}
use Rattle.outcome_fold.specs.Summed.{is_untimed, Sums}
use Rattle.outcome_fold.proofs.OrderLemmas.{routes_total, exact_routes, texts_total, exact_texts}
use Rattle.outcome_fold.proofs.TableLemmas.{none_of_length, get-table, tied_is}
use Rattle.outcome_fold.proofs.FoldLemmas.{filter_push, append_none}
use Rattle.outcome_fold.proofs.GroupLemmas.{group_table_push}
use Rattle.outcome_fold.proofs.SetLemmas.{same_order}

abbrev Route : Type 0
Route = Option (List ℕ)

abbrev Entries : Type 0
Entries = List (Route × List Row)

abbrev joined : Entries → List Row
joined es = flat_map (λ group. group) (map (λ e. e.1) es)

-- ---- the rows of each group are of its route

abbrev Grouped : Entries → Type 0
Grouped [] = Unit {0}
Grouped (e ∷ es) = All (λ row. row.route ≡ e.0) e.1 × Grouped es

put_grouped : (route : Route) (group : List Row) (es : Entries) → All (λ row. row.route ≡ route) group → Grouped es → Grouped (put route_cmp route group es)
put_grouped route group [] own grouped = (own, tt)
put_grouped route group (e ∷ es) own grouped =
    elim (route_cmp route e.0) as (λ o. route_cmp route e.0 ≡ o → Grouped (by_order o ((route, group) ∷ e ∷ es) ((e.0, group) ∷ es) (e ∷ put route_cmp route group es))) [
      | Less ↦ λ is. (own, grouped)
      | Equal ↦ λ is. (subst (λ (r : Route). All (λ row. row.route ≡ r) group) (exact_routes route e.0 is) own, grouped.1)
      | Greater ↦ λ is. (grouped.0, put_grouped route group es own grouped.1)
    ] refl

no_groups : fin.entries (fin.empty {K = Route} {X = List Row} {R = route_cmp}) ≡ []
no_groups = none_of_length _ (sym (len-entries (fin.empty {R = route_cmp})) ∙ len-empty route_cmp (List Row))

table_grouped : (rows : List Row) (routes : List Route) → Grouped (fin.entries (table {R = route_cmp} (λ route. filter (is_under route) rows) routes))
table_grouped rows [] = subst Grouped (sym no_groups) tt
table_grouped rows (route ∷ routes) =
    let own : All (λ row. row.route ≡ route) (filter (is_under route) rows) = All-weaker (λ row. is_under route row ≡ true) (λ row. row.route ≡ route) (λ row is. sym (tied_is exact_routes route row.route is)) (filter (is_under route) rows) (filter_passes (is_under route) rows) in
    subst Grouped (sym (entries-insert routes_total (table {R = route_cmp} (λ route. filter (is_under route) rows) routes) route (filter (is_under route) rows)))
    (put_grouped route (filter (is_under route) rows) _ own (table_grouped rows routes))

-- ---- where one row more is put

abbrev is_behind : Row → Row → Bool
is_behind row other = is_lt (route_cmp row.route other.route)

abbrev AreBehind : Row → Bool → List Row → Type 0
AreBehind row answer others = All (λ other. is_behind row other ≡ answer) others

-- one row more, which comes behind those of the routes up to its own, and before the others
record IsPutByRoute (row : Row) (old new : List Row) : Type 0 where
  first : List Row
  last : List Row
  old_is : old ≡ first ++ last
  new_is : new ≡ first ++ row ∷ last
  before : AreBehind row false first
  behind : AreBehind row true last

both : (a b : Bool) → T (a && b) → T a × T b
both true b is = (tt, is)
both false b is = absurd is

less : (o : Ordering) → T (is_lt o) → o ≡ Less
less Less is = refl
less Equal is = absurd is
less Greater is = absurd is

of_group : (row : Row) (route : Route) (group : List Row) → All (λ other. other.route ≡ route) group → (answer : Bool) → is_lt (route_cmp row.route route) ≡ answer → AreBehind row answer group
of_group row route group own answer at = All-weaker (λ other. other.route ≡ route) (λ other. is_behind row other ≡ answer) (λ other is. ap (λ r. is_lt (route_cmp row.route r)) is ∙ at) group own

joins : (row : Row) (answer : Bool) (some others : List Row) → AreBehind row answer some → AreBehind row answer others → AreBehind row answer (some ++ others)
joins row answer some others = All-append (λ other. is_behind row other ≡ answer) some others

-- a row whose route is below those of all groups has no group among them, and comes before all their rows
before_all : (row : Row) (route : Route) (es : Entries) → ((r : Route) → route_cmp route r ≡ Less → route_cmp row.route r ≡ Less) → T (below_all route_cmp route es) → Grouped es → (find route_cmp row.route es ≡ None) × AreBehind row true (joined es)
before_all row route [] higher below grouped = (refl, All-nil (λ other. is_behind row other ≡ true))
before_all row route (e ∷ es) higher below grouped =
    let parts = both (is_lt (route_cmp route e.0)) (below_all route_cmp route es) below in
    let at : route_cmp row.route e.0 ≡ Less = higher e.0 (less (route_cmp route e.0) parts.0) in
    let rest = before_all row route es higher parts.1 grouped.1 in
    (ap (λ o. cond (is_eq o) (Some e.1) (find route_cmp row.route es)) at ∙ rest.0, joins row true e.1 (joined es) (of_group row e.0 e.1 grouped.0 true (ap is_lt at)) rest.1)

put_in_group : (row : Row) (group : List Row) (es : Entries) → group ≡ unwrap_or (find route_cmp row.route es) [] → T (is_sorted route_cmp es) → Grouped es → IsPutByRoute row (joined es) (joined (put route_cmp row.route (group ++ row ∷ []) es))
put_in_group row group [] is sorted grouped = record {
  first = [];
  last = [];
  old_is = refl;
  new_is = ap (λ (g : List Row). (g ++ row ∷ []) ++ []) is;
  before = All-nil (λ other. is_behind row other ≡ false);
  behind = All-nil (λ other. is_behind row other ≡ true);
}
put_in_group row group (e ∷ es) is sorted grouped =
    let parts = both (below_all route_cmp e.0 es) (is_sorted route_cmp es) sorted in
    let of_first = of_group row e.0 e.1 grouped.0 in
    elim (route_cmp row.route e.0) as (λ o. route_cmp row.route e.0 ≡ o → group ≡ unwrap_or (cond (is_eq o) (Some e.1) (find route_cmp row.route es)) []
    → IsPutByRoute row (e.1 ++ joined es) (joined (by_order o ((row.route, group ++ row ∷ []) ∷ e ∷ es) ((e.0, group ++ row ∷ []) ∷ es) (e ∷ put route_cmp row.route (group ++ row ∷ []) es)))) [
      | Less ↦ λ at is.
          let rest = before_all row e.0 es (λ r higher. routes_total.trans row.route e.0 r at higher) parts.0 grouped.1 in
          record {
            first = [];
            last = e.1 ++ joined es;
            old_is = refl;
            new_is = ap (λ (g : List Row). (g ++ row ∷ []) ++ (e.1 ++ joined es)) (is ∙ ap (λ o. unwrap_or o []) rest.0);
            before = All-nil (λ other. is_behind row other ≡ false);
            behind = joins row true e.1 (joined es) (of_first true (ap is_lt at)) rest.1;
          }
      | Equal ↦ λ at is. record {
        first = e.1;
        last = joined es;
        old_is = refl;
        new_is = ap (λ (g : List Row). (g ++ row ∷ []) ++ joined es) is ∙ append_assoc e.1 (row ∷ []) (joined es);
        before = of_first false (ap is_lt at);
        behind = (before_all row e.0 es (λ r higher. routes_total.congr row.route e.0 r at ∙ higher) parts.0 grouped.1).1;
      }
      | Greater ↦ λ at is.
          let rest = put_in_group row group es is parts.1 grouped.1 in
          record {
            first = e.1 ++ rest.first;
            last = rest.last;
            old_is = ap (λ l. e.1 ++ l) rest.old_is ∙ sym (append_assoc e.1 rest.first rest.last);
            new_is = ap (λ l. e.1 ++ l) rest.new_is ∙ sym (append_assoc e.1 rest.first (row ∷ rest.last));
            before = joins row false e.1 rest.first (of_first false (ap is_lt at)) rest.before;
            behind = rest.behind;
          }
    ] refl is

one_put : (rows : List Row) (row : Row) → IsPutByRoute row (by_route rows) (by_route (rows ++ row ∷ []))
one_put rows row =
    let m = group_table rows in
    let group : List Row = unwrap_or (fin.get m row.route) [] in
    subst (IsPutByRoute row (by_route rows)) (sym (ap joined_groups (group_table_push rows row) ∙ ap joined (entries-insert routes_total m row.route (group ++ row ∷ []))))
    (put_in_group row group (fin.entries m) (ap (λ o. unwrap_or o []) (get-entries m row.route)) (entries_sorted m) (table_grouped rows (map (λ row. row.route) rows)))

abbrev not_behind : Row → Row → Bool
not_behind row other = not (is_behind row other)

turned : (row : Row) (answer : Bool) (others : List Row) → AreBehind row answer others → All (λ other. not_behind row other ≡ not answer) others
turned row answer others all = All-weaker (λ other. is_behind row other ≡ answer) (λ other. not_behind row other ≡ not answer) (λ other is. ap not is) others all

-- there is one place for it
put_there : (row : Row) (old new : List Row) → IsPutByRoute row old new → new ≡ filter (not_behind row) old ++ row ∷ filter (is_behind row) old
put_there row old new is =
    let first : filter (not_behind row) old ≡ is.first = ap (filter (not_behind row)) is.old_is ∙ filter-append (not_behind row) is.first is.last
    ∙ (λ i. filter_all (not_behind row) is.first (turned row false is.first is.before) i ++ filter_none (not_behind row) is.last (turned row true is.last is.behind) i) ∙ append_none is.first in
    let last : filter (is_behind row) old ≡ is.last = ap (filter (is_behind row)) is.old_is ∙ filter-append (is_behind row) is.first is.last
    ∙ (λ i. filter_none (is_behind row) is.first is.before i ++ filter_all (is_behind row) is.last is.behind i) in
    is.new_is ∙ (λ i. sym first i ++ row ∷ sym last i)

-- ---- row by row

row_by_row : (P : List Row → Type 0) → P [] → ((rows : List Row) (row : Row) → P rows → P (rows ++ row ∷ [])) → (rows : List Row) → P rows
row_by_row P none more rows = from [] rows none
  where
    from : (done rows : List Row) → P done → P (done ++ rows)
    from done [] is = subst P (sym (append_none done)) is
    from done (row ∷ rows) is = subst P (append_assoc done (row ∷ []) rows) (from (done ++ row ∷ []) rows (more done row is))

no_rows : by_route [] ≡ []
no_rows = ap joined no_groups

-- ---- the rows that pass a test

put_passing : (p : Row → Bool) (row : Row) (old new : List Row) → IsPutByRoute row old new → p row ≡ true → IsPutByRoute row (filter p old) (filter p new)
put_passing p row old new is passes = record {
  first = filter p is.first;
  last = filter p is.last;
  old_is = ap (filter p) is.old_is ∙ filter-append p is.first is.last;
  new_is = ap (filter p) is.new_is ∙ filter-append p is.first (row ∷ is.last) ∙ ap (λ b. filter p is.first ++ cond b (row ∷ filter p is.last) (filter p is.last)) passes;
  before = All-filter p (λ other. is_behind row other ≡ false) is.first is.before;
  behind = All-filter p (λ other. is_behind row other ≡ true) is.last is.behind;
}

put_left_out : (p : Row → Bool) (row : Row) (old new : List Row) → IsPutByRoute row old new → p row ≡ false → filter p new ≡ filter p old
put_left_out p row old new is fails =
    ap (filter p) is.new_is ∙ filter-append p is.first (row ∷ is.last) ∙ ap (λ b. filter p is.first ++ cond b (row ∷ filter p is.last) (filter p is.last)) fails
    ∙ sym (ap (filter p) is.old_is ∙ filter-append p is.first is.last)

one_passing : (p : Row → Bool) (rows : List Row) (row : Row) → filter p (by_route rows) ≡ by_route (filter p rows) → filter p (by_route (rows ++ row ∷ [])) ≡ by_route (filter p (rows ++ row ∷ []))
one_passing p rows row is = by_test (p row) refl ∙ ap by_route (sym (filter_push p rows row))
  where
    by_test : (b : Bool) → p row ≡ b → filter p (by_route (rows ++ row ∷ [])) ≡ by_route (filter p rows ++ cond b (row ∷ []) [])
    by_test true passes =
        put_there row _ _ (subst (λ l. IsPutByRoute row l (filter p (by_route (rows ++ row ∷ [])))) is (put_passing p row _ _ (one_put rows row) passes))
        ∙ sym (put_there row _ _ (one_put (filter p rows) row))
    by_test false fails = put_left_out p row _ _ (one_put rows row) fails ∙ is ∙ ap by_route (sym (append_none (filter p rows)))

passing_by_route : (p : Row → Bool) (rows : List Row) → filter p (by_route rows) ≡ by_route (filter p rows)
passing_by_route p rows = row_by_row (λ rows. filter p (by_route rows) ≡ by_route (filter p rows)) (ap (filter p) no_rows ∙ sym no_rows) (one_passing p) rows

-- ---- the same rows

put_moves : (row : Row) (old new : List Row) → IsPutByRoute row old new → IsPermutation (row ∷ old) new
put_moves row old new is = subst (λ (l : List Row × List Row). IsPermutation (row ∷ l.0) l.1) (λ i. (sym is.old_is i, sym is.new_is i)) (IsPermutation-sym _ _ (IsPermutation-middle is.first row is.last))

moved : (rows : List Row) → IsPermutation rows (by_route rows)
moved rows = row_by_row (λ rows. IsPermutation rows (by_route rows)) (subst (IsPermutation []) (sym no_rows) (IsPermutation-refl []))
    (λ rows row is. IsPermutation-push_more rows (by_route rows) (by_route (rows ++ row ∷ [])) row is (put_moves row _ _ (one_put rows row))) rows

same_counts : (rows : List Row) → counts_in (by_route rows) ≡ counts_in rows
same_counts rows =
    let same : IsPermutation rows (by_route rows) = moved rows in
    let total = length_permutation rows (by_route rows) same in
    let passed = sum_by-IsPermutation (λ row. cond (row_passes row) 1 0) rows (by_route rows) same in
    let failed = sum_by-IsPermutation (λ row. cond (row_fails row) 1 0) rows (by_route rows) same in
    let skipped = sum_by-IsPermutation (λ row. cond (is_skipped row) 1 0) rows (by_route rows) same in
    let timed = sym (list_any-IsPermutation (λ row. is_some row.nanos) rows (by_route rows) same) in
    let nanos = sum_by-IsPermutation (λ row. unwrap_or row.nanos 0) rows (by_route rows) same in
    λ i. record { total = total i; passed = passed i; failed = failed i; skipped = skipped i; nanos = cond (timed i) (Some (nanos i)) None }

same_ids : (rows : List Row) (id : List ℕ) → list_any (eq_by_cmp text_cmp id) (ids_of (by_route rows)) ≡ list_any (eq_by_cmp text_cmp id) (ids_of rows)
same_ids rows id = sym (list_any-IsPermutation (eq_by_cmp text_cmp id) (ids_of rows) (ids_of (by_route rows)) (IsPermutation-map (λ row. row.id) rows (by_route rows) (moved rows)))

-- ---- the longest times

either_first : (a b : Bool) (m n k : ℕ) → cond a (max m (cond b (max n k) k)) (cond b (max n k) k) ≡ cond b (max n (cond a (max m k) k)) (cond a (max m k) k)
either_first true true m n k = omega arith
either_first true false m n k = refl
either_first false true m n k = refl
either_first false false m n k = refl

longest_middle : (id : List ℕ) (row : Row) (first last : List Row) → longest (first ++ row ∷ last) id ≡ longest (row ∷ (first ++ last)) id
longest_middle id row [] last = refl
longest_middle id row (other ∷ first) last =
    ap (λ (n : ℕ). cond (eq_by_cmp text_cmp id other.id) (max (unwrap_or other.nanos 0) n) n) (longest_middle id row first last)
    ∙ either_first (eq_by_cmp text_cmp id other.id) (eq_by_cmp text_cmp id row.id) (unwrap_or other.nanos 0) (unwrap_or row.nanos 0) (longest (first ++ last) id)

one_longest : (id : List ℕ) (rows : List Row) (row : Row) → longest (by_route rows) id ≡ longest rows id → longest (by_route (rows ++ row ∷ [])) id ≡ longest (rows ++ row ∷ []) id
one_longest id rows row same =
    let is = one_put rows row in
    ap (λ l. longest l id) is.new_is ∙ longest_middle id row is.first is.last ∙ ap (λ l. longest (row ∷ l) id) (sym is.old_is)
    ∙ ap (λ (n : ℕ). cond (eq_by_cmp text_cmp id row.id) (max (unwrap_or row.nanos 0) n) n) (same ∙ ap (λ l. longest l id) (sym (append_none rows)))
    ∙ sym (longest_middle id row rows [])

same_longest : (id : List ℕ) (rows : List Row) → longest (by_route rows) id ≡ longest rows id
same_longest id rows = row_by_row (λ rows. longest (by_route rows) id ≡ longest rows id) (ap (λ l. longest l id) no_rows) (one_longest id) rows

same_times : (rows : List Row) → longest_times (by_route rows) ≡ longest_times rows
same_times rows = same_map texts_total exact_texts _ _ (λ id.
    get-table texts_total exact_texts (longest (by_route rows)) (ids_of (by_route rows)) id
    ∙ (λ i. cond (same_ids rows id i) (Some (same_longest id rows i)) None)
    ∙ sym (get-table texts_total exact_texts (longest rows) (ids_of rows) id))

-- ---- what is kept of the rows

pub sums_by_route : (filter_tags : List (List ℕ)) (rows : List Row) (summary routed : Summary)
    → Sums filter_tags rows summary
    → routed.failing.items ≡ by_route summary.failing.items
    → routed.counts ≡ summary.counts → routed.times ≡ summary.times → routed.untimed ≡ summary.untimed
    → Sums filter_tags (by_route rows) routed
sums_by_route filter_tags rows summary routed sums failing counts times untimed = record {
  failing = failing ∙ ap by_route sums.failing ∙ sym (passing_by_route row_fails rows);
  counts = counts ∙ sums.counts ∙ sym (ap counts_in (passing_by_route (is_counted filter_tags) rows) ∙ same_counts (counted_rows filter_tags rows));
  times = times ∙ sums.times ∙ sym (ap longest_times (passing_by_route (λ row. is_run row && is_some row.nanos) rows) ∙ same_times (timed_rows rows));
  untimed = untimed ∙ sums.untimed ∙ sym (ap (λ l. in_byte_order (ids_of l)) (passing_by_route is_untimed rows) ∙ same_order _ _ (same_ids (filter is_untimed rows)));
}

-- Which rows there are, and how many.
use Rattle.std.proofs.Common.{◌≡◌, ℕ, suc, zero, ◌+◌, Bool, true, false, true≢false, ◌||◌, cond, List, [], ◌∷◌, ◌++◌, Option, Some, None, is_some, map, refl, sym, ◌∙◌, ap, subst, append_assoc, arith}
use Rattle.std.specs.Prelude.{Contains}
use Rattle.std.specs.FinMap as fin
use Rattle.std.specs.FinMap.{find, get-entries, len-entries, len-empty}
use Rattle.std.specs.List.{filter, list_any, flat_map, count_by}
use Rattle.std.specs.Option.{unwrap_or, option_to_list}
use Rattle.std.specs.Ordering.{eq_by_cmp}
use Rattle.std.specs.Cmp.{eq_by_cmp_equiv}
use Rattle.std.specs.declared.cmp.Ordering.{Ordering}
use Rattle.std.proofs.lemmas.List.Elements.{Contains-append_left, Contains-append_right}
use Rattle.packet_codec.specs.declared.event.Event.{Event}
use Rattle.outcome_fold.specs.declared.row.Ended.{Ended}
use Rattle.outcome_fold.specs.declared.row.Ended.TheVariants as ended
use Rattle.outcome_fold.specs.declared.test_key.TestKey.{TestKey}
use Rattle.outcome_fold.specs.declared.row.Row.{Row}
use Rattle.outcome_fold.specs.Order.{route_cmp, test_cmp, table}
use Rattle.outcome_fold.specs.Parts.{test_of, speaks_of, events_of_test, ended_by, has_end_status, last_part}
use Rattle.outcome_fold.specs.Rows.{row_of, row_completing, completed_behind, completed_rows, open_tests, open_rows, is_open, is_under, is_row_of, by_route, rows_of}
use Rattle.outcome_fold.specs.Grouped.{group_table}
use Rattle.outcome_fold.proofs.OrderLemmas.{routes_total, exact_routes, tests_total, exact_tests}
use Rattle.outcome_fold.proofs.TableLemmas.{none_of_length, get-table, tied_is}
use Rattle.outcome_fold.proofs.FoldLemmas.{append_none, among_open}
use Rattle.outcome_fold.proofs.GroupLemmas.{group_table_push}
use Rattle.outcome_fold.proofs.TotalLemmas.{total, total_is, total_append, total_joined, total_insert, of_found}

empty_values : {K : Type 0} (R : K → K → Ordering) (V : Type 0) → fin.values (fin.empty {K = K} {X = V} {R = R}) ≡ []
empty_values {K = K} R V = ap (map (λ (e : K × V). e.1)) (none_of_length _ (sym (len-entries (fin.empty {R = R})) ∙ len-empty R V))

-- ---- route by route no row is lost or doubled

found_group : (f : Row → ℕ) (group : Option (List Row)) → of_found (total f) group ≡ total f (unwrap_or group [])
found_group f None = refl
found_group f (Some group) = refl

pushed_total : (f : Row → ℕ) (rows : List Row) (row : Row) → total (total f) (fin.values (group_table (rows ++ row ∷ []))) ≡ total (total f) (fin.values (group_table rows)) + f row
pushed_total f rows row =
    let m = group_table rows in
    let old : List Row = unwrap_or (fin.get m row.route) [] in
    let same : of_found (total f) (find route_cmp row.route (fin.entries m)) ≡ total f old = ap (of_found (total f)) (sym (get-entries m row.route)) ∙ found_group f (fin.get m row.route) in
    let put : total (total f) (fin.values (fin.insert m row.route (old ++ row ∷ []))) + of_found (total f) (find route_cmp row.route (fin.entries m)) ≡ total (total f) (fin.values m) + total f (old ++ row ∷ []) = total_insert routes_total (total f) m row.route (old ++ row ∷ []) in
    let grown : total f (old ++ row ∷ []) ≡ total f old + (f row + 0) = total_append f old (row ∷ []) in
    ap (λ (t : fin.FinMap route_cmp (List Row)). total (total f) (fin.values t)) (group_table_push rows row) ∙ omega (arith, same, put, grown)

routed : (f : Row → ℕ) (done rows : List Row) → total (total f) (fin.values (group_table done)) ≡ total f done → total (total f) (fin.values (group_table (done ++ rows))) ≡ total f (done ++ rows)
routed f done [] is = subst (λ l. total (total f) (fin.values (group_table l)) ≡ total f l) (sym (append_none done)) is
routed f done (row ∷ rows) is =
    let next : total (total f) (fin.values (group_table (done ++ row ∷ []))) ≡ total f (done ++ row ∷ []) = pushed_total f done row ∙ omega (arith, is, total_append f done (row ∷ [])) in
    subst (λ l. total (total f) (fin.values (group_table l)) ≡ total f l) (append_assoc done (row ∷ []) rows) (routed f (done ++ row ∷ []) rows next)

total_by_route : (f : Row → ℕ) (rows : List Row) → total f (by_route rows) ≡ total f rows
total_by_route f rows = total_joined f (fin.values (group_table rows)) ∙ routed f [] rows (ap (total (total f)) (empty_values route_cmp (List Row)))

abbrev counted : {A : Type 0} → (A → Bool) → A → ℕ
counted p x = cond (p x) 1 0

pub as_many : (es : List Event) (kind : Row → Bool) → count_by kind (rows_of es) ≡ count_by kind (completed_rows es) + count_by kind (open_rows es)
as_many es kind =
    let f : Row → ℕ = counted kind in
    total_is f (rows_of es) ∙ total_by_route f (completed_rows es ++ open_rows es) ∙ omega (arith, total_append f (completed_rows es) (open_rows es), total_is f (completed_rows es), total_is f (open_rows es))

-- ---- the rows of one test

one_event : (test : TestKey) (seen : List Event) (e : Event) (t : Option TestKey) (how : Option Ended) (rest : List Event) (n : ℕ) → ended_by e.status ≡ how → n ≡ total (counted has_end_status) rest → total (counted (is_row_of test)) (option_to_list (row_completing t how seen e)) + n ≡ total (counted has_end_status) (cond (speaks_of test t) (e ∷ rest) rest)
one_event test seen e None how rest n ends is = omega (arith, is)
one_event test seen e (Some t) None rest n ends is =
    let goes : counted has_end_status e ≡ 0 = ap (λ (o : Option Ended). cond {A = ℕ} (is_some o) 1 0) ends in
    elim (eq_by_cmp test_cmp test t) as (λ b. 0 + n ≡ total (counted has_end_status) (cond b (e ∷ rest) rest)) [
      | true ↦ omega (arith, is, goes)
      | false ↦ omega (arith, is)
    ]
one_event test seen e (Some t) (Some how) rest n ends is =
    let done : counted has_end_status e ≡ 1 = ap (λ (o : Option Ended). cond {A = ℕ} (is_some o) 1 0) ends in
    elim (eq_by_cmp test_cmp test t) as (λ b. (cond b 1 0 + 0) + n ≡ total (counted has_end_status) (cond b (e ∷ rest) rest)) [
      | true ↦ omega (arith, is, done)
      | false ↦ omega (arith, is)
    ]

completed_count : (test : TestKey) (seen es : List Event) → total (counted (is_row_of test)) (completed_behind seen es) ≡ total (counted has_end_status) (events_of_test test es)
completed_count test seen [] = refl
completed_count test seen (e ∷ es) =
    total_append (counted (is_row_of test)) (option_to_list (row_completing (test_of e) (ended_by e.status) seen e)) (completed_behind (seen ++ e ∷ []) es)
    ∙ one_event test seen e (test_of e) (ended_by e.status) (events_of_test test es) _ refl (completed_count test (seen ++ e ∷ []) es)

one_key : (b : Bool) (x : ℕ) (old here : Bool) → x + cond here (cond b 1 0) 0 ≡ cond old 1 0 + cond b 1 0 → (b ≡ true → here ≡ old) → x ≡ cond (b || old) 1 0
one_key true x true true is same = omega (arith, is)
one_key true x true false is same = absurd (true≢false (sym (same refl)))
one_key true x false true is same = absurd (true≢false (same refl))
one_key true x false false is same = omega (arith, is)
one_key false x true true is same = omega (arith, is)
one_key false x true false is same = omega (arith, is)
one_key false x false true is same = omega (arith, is)
one_key false x false false is same = omega (arith, is)

found_row : (f : Row → ℕ) (row : Row) (here : Bool) → of_found f (cond here (Some row) None) ≡ cond here (f row) 0
found_row f row true = refl
found_row f row false = refl

open_count : (test : TestKey) (part : TestKey → List Event) (ks : List TestKey) → total (counted (is_row_of test)) (fin.values (table {R = test_cmp} (λ t. row_of t ended.Open None (part t)) ks)) ≡ cond (list_any (eq_by_cmp test_cmp test) ks) 1 0
open_count test part [] = ap (total (counted (is_row_of test))) (empty_values test_cmp Row)
open_count test part (k ∷ ks) =
    let f : Row → ℕ = counted (is_row_of test) in
    let row : TestKey → Row = λ t. row_of t ended.Open None (part t) in
    let m : fin.FinMap test_cmp Row = table row ks in
    let here : Bool = list_any (eq_by_cmp test_cmp k) ks in
    let at : of_found f (find test_cmp k (fin.entries m)) ≡ cond here (f (row k)) 0 = ap (of_found f) (sym (get-entries m k) ∙ get-table tests_total exact_tests row ks k) ∙ found_row f (row k) here in
    let put : total f (fin.values (fin.insert m k (row k))) + of_found f (find test_cmp k (fin.entries m)) ≡ total f (fin.values m) + f (row k) = total_insert tests_total f m k (row k) in
    let before : total f (fin.values m) ≡ cond (list_any (eq_by_cmp test_cmp test) ks) 1 0 = open_count test part ks in
    one_key (eq_by_cmp test_cmp test k) _ (list_any (eq_by_cmp test_cmp test) ks) here
    (ap (λ n. total f (fin.values (fin.insert m k (row k))) + n) (sym at) ∙ put ∙ ap (λ n. n + f (row k)) before)
    (λ tie. ap (λ (q : TestKey). list_any (eq_by_cmp test_cmp q) ks) (sym (tied_is exact_tests test k tie)))

pub parts_count : (es : List Event) (test : TestKey) → count_by (is_row_of test) (rows_of es) ≡ count_by has_end_status (events_of_test test es) + cond (is_open es test) 1 0
parts_count es test =
    let f : Row → ℕ = counted (is_row_of test) in
    let done : total f (completed_rows es) ≡ total (counted has_end_status) (events_of_test test es) = completed_count test [] es in
    let left : total f (open_rows es) ≡ cond (is_open es test) 1 0 = open_count test (λ t. last_part (events_of_test t es)) (open_tests es) ∙ ap (λ b. cond b 1 0) (among_open es test) in
    total_is f (rows_of es) ∙ total_by_route f (completed_rows es ++ open_rows es) ∙ omega (arith, total_append f (completed_rows es) (open_rows es), done, left, total_is (counted has_end_status) (events_of_test test es))

-- ---- each row is there

filter_keeps : (p : Row → Bool) (row : Row) (rows : List Row) → p row ≡ true → Contains rows row → Contains (filter p rows) row
filter_keeps p row [] passes (k, below, at) = absurd (omega (arith, below))
filter_keeps p row (first ∷ rows) passes (zero, below, at) = subst (λ b. Contains (cond b (first ∷ filter p rows) (filter p rows)) row) (sym (ap p at ∙ passes)) (0, omega arith, at)
filter_keeps p row (first ∷ rows) passes (suc k, below, at) =
    let rest : Contains (filter p rows) row = filter_keeps p row rows passes (k, omega (arith, below), at) in
    elim (p first) as (λ b. Contains (cond b (first ∷ filter p rows) (filter p rows)) row) [ true ↦ Contains-append_right (first ∷ []) (filter p rows) row rest | false ↦ rest ]

any_route : (row : Row) (rows : List Row) → Contains rows row → list_any (eq_by_cmp route_cmp row.route) (map (λ row. row.route) rows) ≡ true
any_route row [] (k, below, at) = absurd (omega (arith, below))
any_route row (first ∷ rows) (zero, below, at) =
    ap (λ b. b || list_any (eq_by_cmp route_cmp row.route) (map (λ row. row.route) rows)) (ap (λ (other : Row). eq_by_cmp route_cmp row.route other.route) at ∙ (eq_by_cmp_equiv routes_total).refl row.route)
any_route row (first ∷ rows) (suc k, below, at) =
    let rest : list_any (eq_by_cmp route_cmp row.route) (map (λ row. row.route) rows) ≡ true = any_route row rows (k, omega (arith, below), at) in
    elim (eq_by_cmp route_cmp row.route first.route) as (λ b. (b || list_any (eq_by_cmp route_cmp row.route) (map (λ row. row.route) rows)) ≡ true) [ true ↦ refl | false ↦ rest ]

found_value : {K V : Type 0} (R : K → K → Ordering) (q : K) (v : V) (es : List (K × V)) → find R q es ≡ Some v → Contains (map (λ e. e.1) es) v
found_value R q v [] is = absurd (true≢false (sym (ap is_some is)))
found_value {V = V} R q v (e ∷ es) is =
    elim (eq_by_cmp R q e.0) as (λ b. cond b (Some e.1) (find R q es) ≡ Some v → Contains (e.1 ∷ map (λ e. e.1) es) v) [
      | true ↦ λ is. (0, omega arith, ap (λ (o : Option V). unwrap_or o e.1) is)
      | false ↦ λ is. Contains-append_right (e.1 ∷ []) (map (λ e. e.1) es) v (found_value R q v es is)
    ] is

in_joined : (groups : List (List Row)) (group : List Row) (row : Row) → Contains groups group → Contains group row → Contains (flat_map (λ group. group) groups) row
in_joined [] group row (k, below, at) here = absurd (omega (arith, below))
in_joined (first ∷ groups) group row (zero, below, at) here = Contains-append_left first (flat_map (λ group. group) groups) row (subst (λ (l : List Row). Contains l row) (sym at) here)
in_joined (first ∷ groups) group row (suc k, below, at) here = Contains-append_right first (flat_map (λ group. group) groups) row (in_joined groups group row (k, omega (arith, below), at) here)

in_rows : (rows : List Row) (row : Row) → Contains rows row → Contains (by_route rows) row
in_rows rows row here =
    let group : List Row = filter (is_under row.route) rows in
    let found : fin.get (group_table rows) row.route ≡ Some group = get-table routes_total exact_routes (λ route. filter (is_under route) rows) (map (λ row. row.route) rows) row.route ∙ ap (λ b. cond b (Some group) None) (any_route row rows here) in
    in_joined (fin.values (group_table rows)) group row
    (found_value route_cmp row.route group (fin.entries (group_table rows)) (sym (get-entries (group_table rows) row.route) ∙ found))
    (filter_keeps (is_under row.route) row rows ((eq_by_cmp_equiv routes_total).refl row.route) here)

pub completed_there : (es : List Event) (row : Row) → Contains (completed_rows es) row → Contains (rows_of es) row
completed_there es row here = in_rows (completed_rows es ++ open_rows es) row (Contains-append_left (completed_rows es) (open_rows es) row here)

pub open_there : (es : List Event) (row : Row) → Contains (open_rows es) row → Contains (rows_of es) row
open_there es row here = in_rows (completed_rows es ++ open_rows es) row (Contains-append_right (completed_rows es) (open_rows es) row here)

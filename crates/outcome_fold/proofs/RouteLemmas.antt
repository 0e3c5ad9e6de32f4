-- The rows depend on the events of each route alone.
use Rattle.std.proofs.Common.{◌≡◌, ℕ, Bool, true, false, ◌||◌, cond, Option, Some, None, List, [], ◌∷◌, ◌++◌, map, refl, sym, ◌∙◌, ap}
use Rattle.std.specs.FinMap as fin
use Rattle.std.specs.FinMap.{same_map}
use Rattle.std.specs.List.{filter, list_any}
use Rattle.std.specs.Option.{option_map, option_to_list}
use Rattle.std.specs.Ordering.{eq_by_cmp}
use Rattle.std.specs.Cmp.{eq_by_cmp_equiv}
use Rattle.std.proofs.lemmas.List.Elements.{filter-append}
use Rattle.packet_codec.specs.declared.event.Event.{Event}
use Rattle.packet_codec.proofs.FilterLemmas.{filter_within}
use Rattle.outcome_fold.specs.declared.row.Ended.{Ended}
use Rattle.outcome_fold.specs.declared.row.Ended.TheVariants as how
use Rattle.outcome_fold.specs.declared.test_key.TestKey.{TestKey}
use Rattle.outcome_fold.specs.declared.row.Row.{Row}
use Rattle.outcome_fold.specs.Order.{route_cmp, test_cmp, table}
use Rattle.outcome_fold.specs.Parts.{test_of, speaks_of, events_of_test, ended_by, instant, start_of, elapsed, last_part}
use Rattle.outcome_fold.specs.Rows.{row_of, row_completing, completed_row, completed_behind, completed_rows, has_events, open_tests, open_rows, is_under, by_route, rows_of}
use Rattle.outcome_fold.specs.Grouped.{group_table, joined_groups}
use Rattle.outcome_fold.specs.Answers.{failing_of, passed_of, times_of, seen_tags_of, counts_of, status_of}
use Rattle.outcome_fold.specs.Routes.{is_of_route, of_route, AgreeByRoute, SaySame}
use Rattle.outcome_fold.proofs.OrderLemmas.{routes_total, exact_routes, tests_total, exact_tests}
use Rattle.outcome_fold.proofs.TableLemmas.{tied_is, get-table}
use Rattle.outcome_fold.proofs.FoldLemmas.{filter_push, append_none, among_open}

-- ---- rows with the same groups stand in the same order

abbrev some_group : List Row → Option (List Row)
some_group [] = None
some_group (row ∷ rows) = Some (row ∷ rows)

group_at_from : (route : Option (List ℕ)) (rows : List Row) → cond (list_any (eq_by_cmp route_cmp route) (map (λ row. row.route) rows)) (Some (filter (is_under route) rows)) None ≡ some_group (filter (is_under route) rows)
group_at_from route [] = refl
group_at_from route (row ∷ rows) = elim (is_under route row) as (λ b. cond (b || list_any (eq_by_cmp route_cmp route) (map (λ row. row.route) rows)) (Some (cond b (row ∷ filter (is_under route) rows) (filter (is_under route) rows))) None ≡ some_group (cond b (row ∷ filter (is_under route) rows) (filter (is_under route) rows))) [ true ↦ refl | false ↦ group_at_from route rows ]

group_at : (rows : List Row) (route : Option (List ℕ)) → fin.get (group_table rows) route ≡ some_group (filter (is_under route) rows)
group_at rows route = get-table routes_total exact_routes (λ route. filter (is_under route) rows) (map (λ row. row.route) rows) route ∙ group_at_from route rows

pub same_groups : (rows others : List Row) → ((route : Option (List ℕ)) → filter (is_under route) rows ≡ filter (is_under route) others) → by_route rows ≡ by_route others
same_groups rows others same = ap joined_groups (same_map routes_total exact_routes (group_table rows) (group_table others) (λ route. group_at rows route ∙ ap some_group (same route) ∙ sym (group_at others route)))

-- ---- the events of a test are of its route

test_has_route : (route : Option (List ℕ)) (id : Option (List ℕ)) (test : TestKey) → option_map (λ id. record { route = route; id = id }) id ≡ Some test → test.route ≡ route
test_has_route route None test is = cc
test_has_route route (Some id) test is = cc

speaks_at : (test : TestKey) (other : Option TestKey) (route : Option (List ℕ)) → ((t : TestKey) → other ≡ Some t → t.route ≡ route) → speaks_of test other ≡ true → eq_by_cmp route_cmp test.route route ≡ true
speaks_at test None route its speaks = cc
speaks_at test (Some other) route its speaks = ap (eq_by_cmp route_cmp test.route) (sym (ap (λ t. t.route) (tied_is exact_tests test other speaks) ∙ its other refl)) ∙ (eq_by_cmp_equiv routes_total).refl test.route

events_at_route : (test : TestKey) (events : List Event) → events_of_test test (of_route test.route events) ≡ events_of_test test events
events_at_route test events =
    filter_within (λ e. speaks_of test (test_of e)) (is_of_route test.route) (λ e speaks. speaks_at test (test_of e) e.route (test_has_route e.route e.id) speaks) events

same_events : (events others : List Event) → AgreeByRoute events others → (test : TestKey) → events_of_test test events ≡ events_of_test test others
same_events events others agree test = sym (events_at_route test events) ∙ ap (events_of_test test) (agree test.route) ∙ events_at_route test others

-- ---- the open rows

abbrev open_at : TestKey → List Event → Option Row
open_at test part = cond (has_events part) (Some (row_of test how.Open None part)) None

abbrev open_row : List Event → TestKey → Row
open_row events test = row_of test how.Open None (last_part (events_of_test test events))

get-open_row : (events : List Event) (test : TestKey) → fin.get (table {R = test_cmp} (open_row events) (open_tests events)) test ≡ open_at test (last_part (events_of_test test events))
get-open_row events test = get-table tests_total exact_tests (open_row events) (open_tests events) test ∙ ap (λ b. cond b (Some (open_row events test)) None) (among_open events test)

same_open : (events others : List Event) → AgreeByRoute events others → open_rows events ≡ open_rows others
same_open events others agree = ap fin.values (same_map tests_total exact_tests _ _ (λ test. get-open_row events test ∙ ap (λ es. open_at test (last_part es)) (same_events events others agree test) ∙ sym (get-open_row others test)))

-- ---- the completed rows

nothing_kept : (b : Bool) → ◌≡◌ {A = List Row} [] (cond b [] [])
nothing_kept true = refl
nothing_kept false = refl

abbrev row_with : TestKey → Ended → Event → List Event → Row
row_with test ended e events = row_of test ended (elapsed (start_of (last_part events ++ e ∷ [])) (option_map instant e.stamp)) (last_part events ++ e ∷ [])

kept_row : (route : Option (List ℕ)) (seen : List Event) (e : Event) (test : Option TestKey) (ended : Option Ended) → ((t : TestKey) → test ≡ Some t → t.route ≡ e.route) → (b : Bool) → is_of_route route e ≡ b
    → filter (is_under route) (option_to_list (row_completing test ended seen e)) ≡ cond b (option_to_list (row_completing test ended (of_route route seen) e)) []
kept_row route seen e None ended its b is = nothing_kept b
kept_row route seen e (Some test) None its b is = nothing_kept b
kept_row route seen e (Some test) (Some ended) its true is =
    let own : eq_by_cmp route_cmp route test.route ≡ true = ap (eq_by_cmp route_cmp route) (its test refl) ∙ is in
    ap (λ b. cond b (row_with test ended e (events_of_test test seen) ∷ []) []) own
    ∙ ap (λ es. row_with test ended e es ∷ []) (sym (events_at_route test seen) ∙ ap (λ r. events_of_test test (of_route r seen)) (sym (tied_is exact_routes route test.route own)))
kept_row route seen e (Some test) (Some ended) its false is =
    ap (λ b. cond b (row_with test ended e (events_of_test test seen) ∷ []) []) (ap (eq_by_cmp route_cmp route) (its test refl) ∙ is)

seen_more : (route : Option (List ℕ)) (seen : List Event) (e : Event) (b : Bool) → is_of_route route e ≡ b → of_route route (seen ++ e ∷ []) ≡ of_route route seen ++ cond b (e ∷ []) []
seen_more route seen e b is = filter_push (is_of_route route) seen e ∙ ap (λ b. of_route route seen ++ cond b (e ∷ []) []) is

completed_step : (route : Option (List ℕ)) (seen es : List Event) (e : Event) (b : Bool) → is_of_route route e ≡ b
    → filter (is_under route) (completed_behind (seen ++ e ∷ []) es) ≡ completed_behind (of_route route (seen ++ e ∷ [])) (of_route route es)
    → filter (is_under route) (option_to_list (completed_row seen e)) ++ filter (is_under route) (completed_behind (seen ++ e ∷ []) es) ≡ completed_behind (of_route route seen) (cond b (e ∷ of_route route es) (of_route route es))
completed_step route seen es e true is rest =
    let kept = kept_row route seen e (test_of e) (ended_by e.status) (test_has_route e.route e.id) true is in
    let more = rest ∙ ap (λ s. completed_behind s (of_route route es)) (seen_more route seen e true is) in
    λ i. kept i ++ more i
completed_step route seen es e false is rest =
    let kept = kept_row route seen e (test_of e) (ended_by e.status) (test_has_route e.route e.id) false is in
    let more = rest ∙ ap (λ s. completed_behind s (of_route route es)) (seen_more route seen e false is ∙ append_none (of_route route seen)) in
    λ i. kept i ++ more i

-- the completed rows of a route are those of its events
completed_under : (route : Option (List ℕ)) (seen es : List Event) → filter (is_under route) (completed_behind seen es) ≡ completed_behind (of_route route seen) (of_route route es)
completed_under route seen [] = refl
completed_under route seen (e ∷ es) =
    filter-append (is_under route) (option_to_list (completed_row seen e)) (completed_behind (seen ++ e ∷ []) es)
    ∙ completed_step route seen es e (is_of_route route e) refl (completed_under route (seen ++ e ∷ []) es)

same_completed : (events others : List Event) → AgreeByRoute events others → (route : Option (List ℕ)) → filter (is_under route) (completed_rows events) ≡ filter (is_under route) (completed_rows others)
same_completed events others agree route = completed_under route [] events ∙ ap (completed_behind []) (agree route) ∙ sym (completed_under route [] others)

-- ---- all rows

pub same_rows : (events others : List Event) → AgreeByRoute events others → rows_of events ≡ rows_of others
same_rows events others agree = same_groups (completed_rows events ++ open_rows events) (completed_rows others ++ open_rows others) (λ route.
    filter-append (is_under route) (completed_rows events) (open_rows events)
    ∙ (λ i. same_completed events others agree route i ++ filter (is_under route) (same_open events others agree i))
    ∙ sym (filter-append (is_under route) (completed_rows others) (open_rows others)))

-- where the rows are the same, so is all that they say
pub same_says : (events others : List Event) → rows_of events ≡ rows_of others → SaySame events others
same_says events others same = record {
  rows = same;
  failing = ap failing_of same;
  passed = ap passed_of same;
  times = ap times_of same;
  tags = ap seen_tags_of same;
  counts = λ filter_tags. ap (counts_of filter_tags) same;
  status = ap status_of same;
}

pub say_same : (events others : List Event) → AgreeByRoute events others → SaySame events others
say_same events others agree = same_says events others (same_rows events others agree)

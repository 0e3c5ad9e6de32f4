-- Rows in groups, row by row.
use Rattle.std.proofs.Common.{◌≡◌, ℕ, Bool, true, false, ◌||◌, cond, List, [], ◌∷◌, ◌++◌, Option, Some, None, map, is_some, refl, sym, ◌∙◌, ap, true≢false}
use Rattle.std.specs.BTreeMap.{is_at}
use Rattle.std.specs.Map.{lookup}
use Rattle.std.specs.FinMap as fin
use Rattle.std.specs.Ordering.{eq_by_cmp}
use Rattle.std.specs.Option.{unwrap_or, IsSome}
use Rattle.std.specs.Cmp.{eq_by_cmp_equiv}
use Rattle.std.specs.List.{filter, list_any, flat_map}
use Rattle.std.specs.List.Sorted.{IsStrictlySortedBy}
use Rattle.outcome_fold.specs.declared.row.Row.{Row}
use Rattle.outcome_fold.specs.Order.{route_cmp, table}
use Rattle.outcome_fold.specs.Rows.{is_under}
use Rattle.outcome_fold.specs.Grouped.{group_table, joined_groups}
use Rattle.outcome_fold.proofs.OrderLemmas.{routes_total, exact_routes}
use Rattle.outcome_fold.proofs.TableLemmas.{get-table, table_push, entries_in_order, inserted, lookup_in_map}
use Rattle.outcome_fold.proofs.FoldLemmas.{filter_push, append_none}

pub map_push : {A B : Type 0} (f : A → B) (xs : List A) (x : A) → map f (xs ++ x ∷ []) ≡ map f xs ++ f x ∷ []
map_push f [] x = refl
map_push f (y ∷ xs) x = ap (λ l. f y ∷ l) (map_push f xs x)

none_under : (route : Option (List ℕ)) (rows : List Row) → list_any (eq_by_cmp route_cmp route) (map (λ row. row.route) rows) ≡ false → filter (is_under route) rows ≡ []
none_under route [] none = refl
none_under route (row ∷ rows) none = elim (is_under route row) as (λ b. (b || list_any (eq_by_cmp route_cmp route) (map (λ row. row.route) rows)) ≡ false → cond b (row ∷ filter (is_under route) rows) (filter (is_under route) rows) ≡ []) [ true ↦ λ never. absurd (true≢false never) | false ↦ none_under route rows ] none

under_at : (route : Option (List ℕ)) (rows : List Row) (b : Bool) → list_any (eq_by_cmp route_cmp route) (map (λ row. row.route) rows) ≡ b → unwrap_or (cond b (Some (filter (is_under route) rows)) None) [] ≡ filter (is_under route) rows
under_at route rows true some = refl
under_at route rows false none = sym (none_under route rows none)

-- the group of a route, which is empty where it has no row
group_of : (rows : List Row) (route : Option (List ℕ)) → unwrap_or (fin.get (group_table rows) route) [] ≡ filter (is_under route) rows
group_of rows route = ap (λ g. unwrap_or g []) (get-table routes_total exact_routes _ (map (λ row. row.route) rows) route) ∙ under_at route rows _ refl

-- one row more goes to the end of its route's group
pub group_table_push : (rows : List Row) (row : Row) → group_table (rows ++ row ∷ []) ≡ fin.insert (group_table rows) row.route (unwrap_or (fin.get (group_table rows) row.route) [] ++ row ∷ [])
group_table_push rows row =
    ap (table {R = route_cmp} (λ route. filter (is_under route) (rows ++ row ∷ []))) (map_push (λ row. row.route) rows row)
    ∙ table_push routes_total exact_routes (λ route. filter (is_under route) rows) (λ route. filter (is_under route) (rows ++ row ∷ [])) (map (λ row. row.route) rows) row.route
    (λ q other among. filter_push (is_under q) rows row ∙ ap (λ b. filter (is_under q) rows ++ cond b (row ∷ []) []) other ∙ append_none (filter (is_under q) rows))
    ∙ ap (fin.insert (group_table rows) row.route)
    (filter_push (is_under row.route) rows row ∙ ap (λ b. filter (is_under row.route) rows ++ cond b (row ∷ []) []) ((eq_by_cmp_equiv routes_total).refl row.route)
    ∙ ap (λ g. g ++ row ∷ []) (sym (group_of rows row.route)))

flat_map_map : {A B C : Type 0} (f : B → List C) (g : A → B) (xs : List A) → flat_map f (map g xs) ≡ flat_map (λ x. f (g x)) xs
flat_map_map f g [] = refl
flat_map_map f g (x ∷ xs) = ap (λ l. f (g x) ++ l) (flat_map_map f g xs)

-- the groups of entries, in order, are those of the finite map
pub joined_entries : (es : List (Option (List ℕ) × List Row)) → IsStrictlySortedBy route_cmp (map (λ e. e.0) es) → flat_map (λ e. e.1) es ≡ joined_groups (fin.from_entries {R = route_cmp} es)
joined_entries es ordered = sym (flat_map_map (λ group. group) (λ e. e.1) es) ∙ ap (λ entries. flat_map (λ group. group) (map (λ e. e.1) entries)) (sym (entries_in_order routes_total es ordered))

-- a row that is written through to the group that was found
pub pushed_through : (old new : List (Option (List ℕ) × List Row)) (route : Option (List ℕ)) (group grown : List Row) (row : Row) → ((q : Option (List ℕ)) → lookup (is_at (route_cmp q)) new ≡ cond (is_at (route_cmp route) q) (Some grown) (lookup (is_at (route_cmp q)) old)) → Some group ≡ lookup (is_at (route_cmp route)) old → grown ≡ group ++ row ∷ []
    → fin.from_entries {R = route_cmp} new ≡ fin.insert (fin.from_entries {R = route_cmp} old) route (unwrap_or (fin.get (fin.from_entries {R = route_cmp} old) route) [] ++ row ∷ [])
pushed_through old new route group grown row updates found is =
    inserted routes_total exact_routes old new route grown updates
    ∙ ap (fin.insert (fin.from_entries {R = route_cmp} old) route) (is ∙ ap (λ g. unwrap_or g [] ++ row ∷ []) (found ∙ lookup_in_map routes_total route old))

pub found_some : {A : Type 0} (o : Option A) (x : A) → Some x ≡ o → IsSome o
found_some o x is = ap is_some (sym is)

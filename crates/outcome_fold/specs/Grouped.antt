-- Rows in groups by route (docs/FORMATS.md, "The fold": the order of the rows).
use Rattle.std.specs.Prelude.{List, map}
use Rattle.std.specs.FinMap as fin
use Rattle.std.specs.FinMap.{FinMap}
use Rattle.std.specs.List.{filter, flat_map}
use Rattle.outcome_fold.specs.declared.row.Row.{Row}
use Rattle.outcome_fold.specs.declared.rows.Groups.{Groups}
use Rattle.outcome_fold.specs.Order.{route_cmp, table}
use Rattle.outcome_fold.specs.Rows.{is_under}

-- the rows of each route, as they are kept
abbrev pub groups_in : Groups → FinMap route_cmp (List Row)
groups_in g = fin.from_entries {R = route_cmp} g.groups.entries

-- the rows of all routes as one list, route by route
abbrev pub joined_groups : FinMap route_cmp (List Row) → List Row
joined_groups groups = flat_map (λ group. group) (fin.values groups)

-- the rows of each route of the rows
abbrev pub group_table : List Row → FinMap route_cmp (List Row)
group_table rows = table {R = route_cmp} (λ route. filter (is_under route) rows) (map (λ row. row.route) rows)

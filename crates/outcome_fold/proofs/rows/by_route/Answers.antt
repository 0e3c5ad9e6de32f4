use Rattle.std.proofs.Common.{◌∙◌, sym, ap, [], ◌∷◌, ◌++◌}
use Rattle.std.specs.FinMap as map
use Rattle.std.specs.Option.{unwrap_or}
use Rattle.outcome_fold.proofs.GroupLemmas.{group_table_push}
use Rattle.outcome_fold.proofs.rows.by_route.Goals as goal

pub loop-row-preserved : goal.loop-row-preserved
loop-row-preserved c =
    let row = c.in-Some.row in
    c.in_ok-push.ensures ∙ ap (λ groups. map.insert groups row.route (unwrap_or (map.get groups row.route) [] ++ row ∷ [])) c.loop-row.invariant
    ∙ sym (group_table_push c.loop-row.yielded row)

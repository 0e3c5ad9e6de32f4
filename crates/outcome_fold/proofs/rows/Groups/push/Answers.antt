use Rattle.std.proofs.Common.{◌≡◌, ◌∙◌, sym, ap, [], ◌∷◌, ◌++◌, None}
use Rattle.std.specs.FinMap as map
use Rattle.std.proofs.lemmas.Result.{on_ok_weaker}
use Rattle.std.specs.Option.{unwrap_or}
use Rattle.outcome_fold.specs.Order.{route_cmp}
use Rattle.outcome_fold.specs.Grouped.{groups_in}
use Rattle.outcome_fold.proofs.TableLemmas.{lookup_in_map}
use Rattle.outcome_fold.proofs.OrderLemmas.{routes_total}
use Rattle.outcome_fold.proofs.GroupLemmas.{pushed_through, found_some}
use Rattle.outcome_fold.proofs.rows.Groups.push.Goals as goal

pub returns-in-Some : goal.returns-in-Some
returns-in-Some c =
    on_ok_weaker c.push.result (λ pushed. pushed_through _ _ _ c.in-Some.group.now c.push.new.self c.args.row ((c.get_mut.follows.holds c.push.new.self).3 (found_some _ _ c.in-Some.ensures.value)).0 c.in-Some.ensures.value pushed) c.push.ensures

pub returns-in-None : goal.returns-in-None
returns-in-None c =
    let at : map.get (groups_in c.args.self.now) c.args.row.route ≡ None = sym (lookup_in_map routes_total _ _) ∙ sym c.in-None.ensures.value in
    let same = c.get_mut.follows.holds-at-none in
    on_ok_weaker c.start.result (λ started. started
    ∙ (λ i. map.insert (map.from_entries {R = route_cmp} (same i).entries) c.args.row.route (c.args.row ∷ []))
    ∙ ap (λ group. map.insert (groups_in c.args.self.now) c.args.row.route (unwrap_or group [] ++ c.args.row ∷ [])) (sym at)) c.start.ensures

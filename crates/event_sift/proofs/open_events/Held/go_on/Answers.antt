use Rattle.std.proofs.Common.{◌≡◌, ◌∙◌, sym, ap, [], ◌∷◌, ◌++◌, None}
use Rattle.std.specs.FinMap as map
use Rattle.std.proofs.lemmas.Result.{on_ok_weaker}
use Rattle.std.specs.Option.{unwrap_or}
use Rattle.outcome_fold.specs.Order.{test_cmp}
use Rattle.outcome_fold.proofs.TableLemmas.{lookup_in_map}
use Rattle.outcome_fold.proofs.OrderLemmas.{tests_total}
use Rattle.outcome_fold.proofs.GroupLemmas.{found_some}
use Rattle.event_sift.specs.Sifted.{parts_in}
use Rattle.event_sift.proofs.HeldLemmas.{pushed_through}
use Rattle.event_sift.proofs.open_events.Held.go_on.Goals as goal

pub returns-in-Some : goal.returns-in-Some
returns-in-Some c =
    on_ok_weaker c.push.result (λ pushed. pushed_through _ _ _ c.in-Some.part.now c.push.new.self c.args.event ((c.get_mut.follows.holds c.push.new.self).3 (found_some _ _ c.in-Some.ensures.value)).0 c.in-Some.ensures.value pushed) c.push.ensures

pub returns-in-None : goal.returns-in-None
returns-in-None c =
    let at : map.get (parts_in c.args.self.now) c.args.key ≡ None = sym (lookup_in_map tests_total _ _) ∙ sym c.in-None.ensures.value in
    let same = c.get_mut.follows.holds-at-none in
    on_ok_weaker c.start.result (λ started. started
    ∙ (λ i. map.insert (map.from_entries {R = test_cmp} (same i).entries) c.args.key (c.args.event ∷ []))
    ∙ ap (λ events. map.insert (parts_in c.args.self.now) c.args.key (unwrap_or events [] ++ c.args.event ∷ [])) (sym at)) c.start.ensures

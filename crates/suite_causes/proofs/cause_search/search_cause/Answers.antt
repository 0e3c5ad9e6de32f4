use Rattle.std.proofs.Common.{◌≡◌, ℕ, ◌++◌, ◌∷◌, [], Option, Some, List, take, length, refl, sym, ap, ◌∙◌, subst}
use Rattle.edge_io.specs.Spawners.{Spawning}
use Rattle.edge_io.specs.Steps.{Goes}
use Rattle.isolation_bisect.specs.Orders.{next_probe, AskedInOrder}
use Rattle.isolation_bisect.specs.Probes.{IsWithin}
use Rattle.isolation_bisect.specs.declared.probe.Asked.{Asked}
use Rattle.suite_causes.specs.Searching.{TestIds, HasAsked}
use Rattle.suite_causes.proofs.SearchLemmas.{starts_first, cause_first, length_first, asked_none, asked_more, asked_by, stops_behind, search_stops}
use Rattle.suite_causes.proofs.cause_search.search_cause.Goals as goal

pub loop-probe-init : goal.loop-probe-init
loop-probe-init g c =
    let candidates : TestIds = take c.args.count c.args.ids.now in
    let state : Option Spawning = (g.S.Spawner.seen c.args.spawner.now).told in
    record {
      candidates = c.new-bisect.ensures.candidates;
      asked = subst (λ (asked : List Asked). Goes state state (HasAsked c.args.conf.now candidates c.args.test.now asked)) (sym c.new-bisect.ensures.asked) (asked_none c.args.conf.now candidates c.args.test.now state);
      sum = refl;
    }

pub returns-in_err-failed-clause-step : goal.returns-in_err-failed-clause-step
returns-in_err-failed-clause-step g c =
    let candidates : TestIds = take c.args.count c.args.ids.now in
    let before = c.loop-probe.invariant in
    let size : length candidates ≡ c.loop-probe.bisect.candidates = length_first c.args.count c.args.ids.now c.requires.few ∙ sym before.candidates in
    let within : IsWithin c.args.count c.in-Some.probe = subst (λ (n : ℕ). IsWithin n c.in-Some.probe) before.candidates c.in-Some.ensures.within in
    let next : next_probe c.loop-probe.bisect.asked (length candidates) ≡ Some c.in-Some.probe = ap (next_probe c.loop-probe.bisect.asked) size ∙ sym c.next.ensures.probe ∙ c.in-Some.is in
    let cause = cause_first c.args.conf.now c.args.ids.now c.args.count c.args.test.now c.in-Some.probe _ _ _ within c.in_err-failed.ensures.refused in
    search_stops c.args.conf.now candidates c.args.test.now _ _ _ _ _ c.from_residual.ensures.1
    (stops_behind c.args.conf.now candidates c.args.test.now c.loop-probe.bisect.asked c.in-Some.probe _ _ _ _ next before.asked cause)
    before.sum
    c.in_err-failed.ensures.count

pub loop-probe-preserved : goal.loop-probe-preserved
loop-probe-preserved g c =
    let candidates : TestIds = take c.args.count c.args.ids.now in
    let before = c.loop-probe.invariant in
    let kept : c.answer.new.self.candidates ≡ c.args.count = c.answer.ensures.candidates ∙ before.candidates in
    let within : IsWithin c.args.count c.in-Some.probe = subst (λ (n : ℕ). IsWithin n c.in-Some.probe) before.candidates c.in-Some.ensures.within in
    let one : Asked = record { probe = c.in-Some.probe; failed = c.in_ok-failed.failed } in
    let asked : c.answer.new.self.asked ≡ c.loop-probe.bisect.asked ++ one ∷ [] = asked_by (next_probe c.loop-probe.bisect.asked c.loop-probe.bisect.candidates) c.in-Some.probe (λ probe. c.answer.new.self.asked ≡ c.loop-probe.bisect.asked ++ record { probe = probe; failed = c.in_ok-failed.failed } ∷ []) (sym c.next.ensures.probe ∙ c.in-Some.is) c.answer.ensures.asked in
    let order : AskedInOrder (c.loop-probe.bisect.asked ++ one ∷ []) (length candidates) =
    subst (λ (list : List Asked). AskedInOrder list (length candidates)) asked
    (subst (λ (n : ℕ). AskedInOrder c.answer.new.self.asked n) (kept ∙ sym (length_first c.args.count c.args.ids.now c.requires.few)) c.answer.ensures.in_order) in
    let start : Option Spawning = (g.S.Spawner.seen c.args.spawner.now).told in
    let between : Option Spawning = (g.S.Spawner.seen c.loop-probe.spawner).told in
    let end : Option Spawning = (g.S.Spawner.seen c.ask.new.spawner).told in
    let starts = starts_first c.args.conf.now c.args.ids.now c.args.count c.args.test.now c.in-Some.probe c.in_ok-failed.failed between end within c.in_ok-failed.ensures.answered in
    record {
      candidates = kept;
      asked = subst (λ (list : List Asked). Goes start end (HasAsked c.args.conf.now candidates c.args.test.now list)) (sym asked)
          (asked_more c.args.conf.now candidates c.args.test.now c.loop-probe.bisect.asked c.in-Some.probe c.in_ok-failed.failed start between end order before.asked starts);
      sum = c.in_ok-failed.ensures.count.stands refl ∙ before.sum;
    }

use Rattle.std.proofs.Common.{sym, ◌∙◌}
use Rattle.std.proofs.lemmas.Result.{IfOk-weaker, on_ok_weaker, MatchResult-weaker}
use Rattle.event_sift.specs.Keeping.{keeps}
use Rattle.event_sift.proofs.HeldLemmas.{stays, goes_on, ends}
use Rattle.event_sift.proofs.SiftLemmas.{at_no_test, at_going_on, at_completing}
use Rattle.event_sift.proofs.sift.Sift.add.Goals as goal

pub returns-in_default-clause-released : goal.returns-in_default-clause-released
returns-in_default-clause-released g c seen has =
    IfOk-weaker c.only.result _ _ (λ events is. at_no_test (keeps c.args.self.now.rules.now) seen c.args.event events.items (sym c.in_default.is ∙ c.in_ok-key.ensures) is) c.only.ensures

pub returns-in_default-clause-taken : goal.returns-in_default-clause-taken
returns-in_default-clause-taken g c seen has =
    MatchResult-weaker c.only.result c.only.ensures (λ _ _. stays seen c.args.event _ has (sym c.in_default.is ∙ c.in_ok-key.ensures)) (λ _ _. tt)

pub returns-in-Some-ended_by-clause-released : goal.returns-in-Some-ended_by-clause-released
returns-in-Some-ended_by-clause-released g c seen has =
    IfOk-weaker c.complete.result _ _ (λ events is. at_completing (keeps c.args.self.now.rules.now) seen c.args.event c.in-Some.key c.in-Some-ended_by.ended events.items (sym c.in-Some.is ∙ c.in_ok-key.ensures) c.in-Some-ended_by.ensures is) (c.complete.ensures.released seen has)

pub returns-in-Some-ended_by-clause-taken : goal.returns-in-Some-ended_by-clause-taken
returns-in-Some-ended_by-clause-taken g c seen has =
    on_ok_weaker c.complete.result (λ gone. ends seen c.args.event _ _ c.in-Some.key c.in-Some-ended_by.ended has (sym c.in-Some.is ∙ c.in_ok-key.ensures) c.in-Some-ended_by.ensures gone) c.complete.ensures.taken

pub returns-in_ok-go_on-in-None-clause-released : goal.returns-in_ok-go_on-in-None-clause-released
returns-in_ok-go_on-in-None-clause-released g c seen has =
    at_going_on (keeps c.args.self.now.rules.now) seen c.args.event c.in-Some.key _ (sym c.in-Some.is ∙ c.in_ok-key.ensures) c.in-None.ensures c.new.ensures.items

pub returns-in_ok-go_on-in-None-clause-taken : goal.returns-in_ok-go_on-in-None-clause-taken
returns-in_ok-go_on-in-None-clause-taken g c seen has =
    goes_on seen c.args.event _ _ c.in-Some.key has (sym c.in-Some.is ∙ c.in_ok-key.ensures) c.in-None.ensures c.in_ok-go_on-in-None.ensures

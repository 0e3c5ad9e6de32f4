use Rattle.std.proofs.Common.{◌≡◌, ◌∙◌, ◌∷◌, ap, false, rules, max}
use Rattle.std.specs.FinMap as fin
use Rattle.std.specs.Option.{unwrap_or}
use Rattle.std.proofs.lemmas.Result.{on_ok_weaker}
use Rattle.outcome_fold.specs.Order.{in_byte_order}
use Rattle.outcome_fold.specs.Answers.{is_existing}
use Rattle.outcome_fold.proofs.SummedLemmas.{time_raised, untimed_put}
use Rattle.outcome_fold.proofs.summary.Summary.take_time.Goals as goal

pub returns-in-Some-clause-times : goal.returns-in-Some-clause-times
returns-in-Some-clause-times c = λ rows row has is.
    let other : is_existing c.args.ended ≡ false = search rules in
    on_ok_weaker c.raise.result (λ raised. raised
    ∙ ap (λ times. fin.insert times c.args.id (max c.in-Some.nanos (unwrap_or (fin.get times c.args.id) 0))) is
    ∙ time_raised rows row c.args.id c.args.ended c.args.nanos has c.in-Some.nanos other c.in-Some.is) c.raise.ensures

pub returns-in-None-clause-untimed : goal.returns-in-None-clause-untimed
returns-in-None-clause-untimed c = λ rows row has is.
    let other : is_existing c.args.ended ≡ false = search rules in
    on_ok_weaker c.put.result (λ put. put
    ∙ ap (λ ids. in_byte_order (c.args.id ∷ ids)) is
    ∙ untimed_put rows row c.args.id c.args.ended c.args.nanos has other c.in-None.is) c.put.ensures.ok

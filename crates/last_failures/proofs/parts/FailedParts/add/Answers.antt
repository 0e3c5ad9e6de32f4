use Rattle.std.proofs.Common.{◌∙◌, sym}
use Rattle.last_failures.proofs.FindLemmas.{both_ok, ok_then}
use Rattle.last_failures.proofs.PartLemmas.{passes, goes_on, ends}
use Rattle.last_failures.proofs.parts.FailedParts.add.Goals as goal

pub returns-then-not-is_wanted : goal.returns-then-not-is_wanted
returns-then-not-is_wanted c = λ seen has. passes c.args.wanted.now seen c.args.event.now (sym c.is_wanted.ensures ∙ c.if-not-is_wanted.true) c.args.self.now has

pub returns-in-Some-ended_by : goal.returns-in-Some-ended_by
returns-in-Some-ended_by c = λ seen has.
    both_ok c.finish.result c.finish.ensures.open c.finish.ensures.failed
    (λ open_is failed_is. ends c.args.wanted.now seen c.args.event.now c.in-Some.key c.args.self.now c.finish.new.self (sym c.in-Some.is ∙ c.in_ok-key.ensures) (sym c.is_wanted.ensures ∙ c.if-not-is_wanted.false) has c.in-Some-ended_by.ended (sym c.in-Some-ended_by.is ∙ c.ended_by.ensures) open_is failed_is)

pub returns-in-None : goal.returns-in-None
returns-in-None c = λ seen has.
    ok_then c.go_on.result c.go_on.ensures.open
    (λ open_is. goes_on c.args.wanted.now seen c.args.event.now c.in-Some.key c.args.self.now c.go_on.new.self (sym c.in-Some.is ∙ c.in_ok-key.ensures) (sym c.is_wanted.ensures ∙ c.if-not-is_wanted.false) has (sym c.in-None.is ∙ c.ended_by.ensures) open_is c.go_on.ensures.failed)

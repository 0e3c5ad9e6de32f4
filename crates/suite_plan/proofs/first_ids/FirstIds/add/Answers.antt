use Rattle.std.proofs.Common.{◌≡◌, true, false}
use Rattle.outcome_fold.specs.Order.{among}
use Rattle.suite_plan.proofs.FirstLemmas.{has_old, has_new}
use Rattle.suite_plan.proofs.first_ids.FirstIds.add.Goals as goal

pub returns-then-contains : goal.returns-then-contains
returns-then-contains c =
    let is : true ≡ among c.args.self.now.seen c.args.id = rw c.if-contains.true at c.contains.ensures in
    λ ids has. has_old c.args.self.now ids c.args.id is has

pub returns : goal.returns
returns c =
    let is : false ≡ among c.args.self.now.seen c.args.id = rw c.if-contains.false at c.contains.ensures in
    λ ids has. has_new c.args.self.now _ ids c.args.id is c.in_ok-insert.ensures.ok c.in_ok-push.ensures.ok has

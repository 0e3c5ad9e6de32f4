use Rattle.std.proofs.Common.{false, true, ◌≡◌}
use Rattle.filter_cli.proofs.V1Lemmas.{last_none, last_some}
use Rattle.filter_cli.proofs.v1_filter.V1ToSubunit.end_last.Goals as goal

pub returns-then-is_new-clause-last : goal.returns-then-is_new-clause-last
returns-then-is_new-clause-last c fed shown h =
    let new = c.is_new.ensures.0 c.if-is_new.true in
    last_none c.args.self.now.reader c.args.self.now.held.items c.args.self.now.long fed shown _ new.0 new.1 h

pub returns-clause-last : goal.returns-clause-last
returns-clause-last c fed shown h =
    last_some c.args.self.now.reader c.end_line.new.self.reader c.args.self.now.held.items c.args.self.now.long fed shown _ _ (λ both. let wrong : false ≡ true = c.if-is_new.ensures.1 both in cc) h c.in_ok-end_line.ensures.hears

use Rattle.filter_cli.proofs.TapLemmas.{taken_long, taken_held}
use Rattle.filter_cli.proofs.tap_filter.TapToSubunit.end_line.Goals as goal

pub returns-then-self-clause-taken : goal.returns-then-self-clause-taken
returns-then-self-clause-taken c fed shown h =
    taken_long c.args.self.now.reader c.args.self.now.line.held.items c.args.self.now.line.long fed shown _ _ c.if-self.true c.in_ok-give_rest.ensures.text h

pub returns-clause-taken : goal.returns-clause-taken
returns-clause-taken c fed shown h =
    taken_held c.args.self.now.reader c.take_line.new.reader c.args.self.now.line.held.items c.args.self.now.line.long fed shown c.deref.result.now _ _ c.if-self.false c.deref.ensures.value h c.in_ok-take_line.ensures

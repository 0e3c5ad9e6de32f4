use Rattle.filter_cli.proofs.V1Lemmas.{fed_line}
use Rattle.filter_cli.proofs.v1_filter.V1ToSubunit.take_end.Goals as goal

pub returns-clause-fed : goal.returns-clause-fed
returns-clause-fed c fed shown h =
    fed_line c.args.self.now.reader c.add.new.self.reader c.end_line.new.self.reader c.args.self.now.held.items c.args.self.now.long fed shown c.args.end.now c.add.new.self.held.items _ c.add.new.self.long _ _ _ c.requires.plain h
    c.in_ok-add.ensures.added c.in_ok-push.ensures.items c.in_ok-end_line.ensures.hears

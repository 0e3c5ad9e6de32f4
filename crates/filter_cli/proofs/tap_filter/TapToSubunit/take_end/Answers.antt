use Rattle.filter_cli.proofs.TapLemmas.{line_new, line_more}
use Rattle.filter_cli.proofs.tap_filter.TapToSubunit.take_end.Goals as goal

pub returns-then-is_new-clause-tapped : goal.returns-then-is_new-clause-tapped
returns-then-is_new-clause-tapped c fed shown h =
    let new = c.is_new.ensures.0 c.if-is_new.true in
    line_new c.args.self.now.reader c.take_line.new.reader c.args.self.now.line.held.items c.args.self.now.line.long fed shown c.args.end.now _ _ new.0 new.1 c.requires.plain h c.in_ok-take_line.ensures

pub returns-clause-tapped : goal.returns-clause-tapped
returns-clause-tapped c fed shown h =
    line_more c.args.self.now.reader c.end_line.new.self.reader c.args.self.now.line.held.items c.args.self.now.line.long fed shown c.args.end.now _ _ _ _ _ c.requires.plain h c.in_ok-add.ensures c.in_ok-end_line.ensures.taken

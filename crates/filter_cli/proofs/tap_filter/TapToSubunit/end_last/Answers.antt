use Rattle.std.proofs.Common.{false, true, ◌≡◌}
use Rattle.filter_cli.proofs.TapLemmas.{last_new, last_more}
use Rattle.filter_cli.proofs.tap_filter.TapToSubunit.end_last.Goals as goal

pub returns-then-is_new : goal.returns-then-is_new
returns-then-is_new c fed shown h =
    let new = c.is_new.ensures.0 c.if-is_new.true in
    last_new c.args.self.now.reader c.args.self.now.line.held.items c.args.self.now.line.long fed shown _ new.0 new.1 h

pub returns : goal.returns
returns c fed shown h =
    last_more c.args.self.now.reader c.end_line.new.self.reader c.args.self.now.line.held.items c.args.self.now.line.long fed shown _ _ (λ both. let wrong : false ≡ true = c.if-is_new.ensures.1 both in cc) h (c.in_ok-end_line.ensures.taken fed shown h)

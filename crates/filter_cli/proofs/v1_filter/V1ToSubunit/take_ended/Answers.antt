use Rattle.std.proofs.Common.{◌≡◌, true, arith}
use Rattle.filter_cli.proofs.V1Lemmas.{fed_whole, whole_is_short}
use Rattle.filter_cli.proofs.v1_filter.V1ToSubunit.take_ended.Goals as goal

pub take_line-requires-clause-short : goal.take_line-requires-clause-short
take_line-requires-clause-short c = whole_is_short c.args.end.now c.args.ended.now c.requires.ended c.requires.end

pub returns-clause-held : goal.returns-clause-held
returns-clause-held c =
    let is_new : c.is_new.result ≡ true = grind (arith, c.if-not-is_new.false) in
    (c.is_new.ensures.0 is_new).0

pub returns-clause-long : goal.returns-clause-long
returns-clause-long c =
    let is_new : c.is_new.result ≡ true = grind (arith, c.if-not-is_new.false) in
    (c.is_new.ensures.0 is_new).1

pub returns-clause-fed : goal.returns-clause-fed
returns-clause-fed c fed shown h =
    let is_new : c.is_new.result ≡ true = grind (arith, c.if-not-is_new.false) in
    let new = c.is_new.ensures.0 is_new in
    fed_whole c.args.self.now.reader c.take_line.new.reader c.args.self.now.held.items c.args.self.now.long fed shown c.args.end.now c.args.ended.now _ _ new.0 new.1 c.requires.plain c.requires.end c.requires.ended h c.in_ok-take_line.ensures.hears

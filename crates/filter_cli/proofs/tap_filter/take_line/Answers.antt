use Rattle.std.proofs.Common.{sym, subst}
use Rattle.tap_bridge.specs.declared.reader.TapReader.{TapReader}
use Rattle.filter_cli.specs.Tapped.{HasTaken}
use Rattle.filter_cli.proofs.TapLemmas.{taken_comment}
use Rattle.filter_cli.proofs.tap_filter.take_line.Goals as goal

pub returns-then-taken : goal.returns-then-taken
returns-then-taken c lines shown h =
    taken_comment lines c.args.line.now shown c.args.text.now.items c.args.reader.now c.comment.new.self h
    (c.in_ok-taken.ensures.read lines h.taken c.if-taken.true) (c.in_ok-taken.ensures.nothing lines h.taken c.if-taken.true)

pub returns : goal.returns
returns c lines shown h = c.in_ok-give_line.ensures lines shown (subst (λ (r : TapReader). HasTaken r lines shown) (sym (c.in_ok-taken.ensures.left c.if-taken.false)) h)

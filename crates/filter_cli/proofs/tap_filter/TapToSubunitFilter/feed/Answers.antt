use Rattle.std.proofs.Common.{[], ◌++◌, sym, subst, List, ℕ, append-nil, arith}
use Rattle.std.proofs.lemmas.List.{take_rest}
use Rattle.filter_cli.specs.Tapped.{HasTapped}
use Rattle.filter_cli.proofs.NewlineLemmas.{none_left, place_fits, line_is_plain, line_is_next}
use Rattle.filter_cli.proofs.TapLemmas.{adds_none, none_held, fed_line, fed_rest}
use Rattle.filter_cli.proofs.tap_filter.TapToSubunitFilter.feed.Goals as goal

pub loop-count-init : goal.loop-count-init
loop-count-init c =
    let takes = HasTapped c.args.self.now.reader c.args.self.now.line.held.items c.args.self.now.line.long in
    record {
      within = omega arith;
      ready = c.requires.ready;
      fed = λ fed shown h. adds_none takes (fed ++ []) shown _ (subst (λ (l : List ℕ). takes l shown) (sym (append-nil fed)) h);
    }

pub take_end-requires-clause-plain : goal.take_end-requires-clause-plain
take_end-requires-clause-plain c = line_is_plain c.args.piece.now c.loop-count.from c.loop-count.invariant.within c.in-Some.count c.in-Some.ensures

pub loop-count-preserved : goal.loop-count-preserved
loop-count-preserved c =
    let inv = c.loop-count.invariant in
    let fits = place_fits c.args.piece.now c.loop-count.from inv.within c.in-Some.count c.in-Some.ensures in
    record {
      within = omega (arith, fits);
      ready = none_held _ c.take_end.new.self.line.long c.in_ok-take_end.ensures.held;
      fed = λ fed shown h. fed_line c.loop-count.self.reader c.take_end.new.self.reader c.loop-count.self.line.held.items c.take_end.new.self.line.held.items c.loop-count.self.line.long c.take_end.new.self.line.long c.args.piece.now _ fed shown _ _ _ c.loop-count.from _
          c.in_ok-take_end.ensures.held c.in_ok-take_end.ensures.long (line_is_next c.args.piece.now c.loop-count.from inv.within c.in-Some.count c.in-Some.ensures) (inv.fed fed shown h) c.in_ok-take_end.ensures.tapped;
    }

pub returns-clause-ok : goal.returns-clause-ok
returns-clause-ok c = λ fed shown h.
    fed_rest c.loop-count.self.reader c.loop-count.self.line.held.items _ c.loop-count.self.line.long _ c.args.piece.now _ fed shown _ _ _ c.loop-count.from (take_rest c.args.piece.now c.loop-count.from)
    (none_left c.args.piece.now c.loop-count.from c.loop-count.invariant.within c.in_default.ensures) (c.loop-count.invariant.fed fed shown h) c.in_ok-add.ensures

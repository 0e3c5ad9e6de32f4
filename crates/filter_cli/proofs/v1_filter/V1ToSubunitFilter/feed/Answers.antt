use Rattle.std.proofs.Common.{[], ◌++◌, sym, subst, List, ℕ, append-nil, arith}
use Rattle.std.proofs.lemmas.List.{take_rest}
use Rattle.filter_cli.specs.V1Fed.{HasFedV1}
use Rattle.filter_cli.proofs.NewlineLemmas.{none_left, place_fits, line_is_plain, line_is_next, ended_is}
use Rattle.filter_cli.proofs.TapLemmas.{adds_none, none_held}
use Rattle.filter_cli.proofs.V1Lemmas.{fed_up_to, fed_rest}
use Rattle.filter_cli.proofs.v1_filter.V1ToSubunitFilter.feed.Goals as goal

pub loop-count-init : goal.loop-count-init
loop-count-init c =
    let takes = HasFedV1 c.args.self.now.reader c.args.self.now.held.items c.args.self.now.long in
    record {
      within = omega arith;
      held = c.requires.ready.0;
      little = c.requires.ready.1;
      fed = λ fed shown h. adds_none takes (fed ++ []) shown _ (subst (λ (l : List ℕ). takes l shown) (sym (append-nil fed)) h);
    }

pub take_ended-requires-clause-plain : goal.take_ended-requires-clause-plain
take_ended-requires-clause-plain c = line_is_plain c.args.piece.now c.loop-count.from c.loop-count.invariant.within c.in-Some.count c.in-Some.ensures

pub take_ended-requires-clause-ended : goal.take_ended-requires-clause-ended
take_ended-requires-clause-ended c = ended_is c.args.piece.now c.loop-count.from c.loop-count.invariant.within c.in-Some.count c.in-Some.ensures

pub loop-count-preserved : goal.loop-count-preserved
loop-count-preserved c =
    let inv = c.loop-count.invariant in
    let fits = place_fits c.args.piece.now c.loop-count.from inv.within c.in-Some.count c.in-Some.ensures in
    record {
      within = omega (arith, fits);
      held = none_held _ c.take_ended.new.self.long c.in_ok-take_ended.ensures.held;
      little = c.in_ok-take_ended.ensures.little;
      fed = λ fed shown h. fed_up_to c.loop-count.self.reader c.take_ended.new.self.reader c.loop-count.self.held.items c.take_ended.new.self.held.items c.loop-count.self.long c.take_ended.new.self.long c.args.piece.now _ fed shown _ _ _ c.loop-count.from _
          c.in_ok-take_ended.ensures.held c.in_ok-take_ended.ensures.long (line_is_next c.args.piece.now c.loop-count.from inv.within c.in-Some.count c.in-Some.ensures) (inv.fed fed shown h) c.in_ok-take_ended.ensures.fed;
    }

pub returns-clause-ok : goal.returns-clause-ok
returns-clause-ok c = λ fed shown h.
    fed_rest c.loop-count.self.reader c.add.new.self.reader c.loop-count.self.held.items _ c.loop-count.self.long _ c.args.piece.now _ fed shown _ _ _ c.loop-count.from (take_rest c.args.piece.now c.loop-count.from)
    (none_left c.args.piece.now c.loop-count.from c.loop-count.invariant.within c.in_default.ensures) (c.loop-count.invariant.fed fed shown h) c.in_ok-add.ensures.added

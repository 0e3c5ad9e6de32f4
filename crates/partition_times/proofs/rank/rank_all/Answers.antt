use Rattle.std.proofs.Common.{◌≡◌, ◌∷◌, [], map}
use Rattle.std.proofs.lemmas.List.{map-append}
use Rattle.partition_times.proofs.LoopLemmas.{one_more_done, all_done, holds_here}
use Rattle.partition_times.proofs.rank.rank_all.Goals as goal

pub loop-name-preserved : goal.loop-name-preserved
loop-name-preserved c = record {
  parts = one_more_done c.loop-name.yielded c.loop-name.name-iterator c.next.new.self _ (c.in-Some.name, c.in-Some.ids) c.loop-name.invariant.parts c.in-Some.ensures.steps;
  ranked = λ group are.
      rw (map-append (λ e. e.0.now) c.loop-name.yielded ((c.in-Some.name, c.in-Some.ids) ∷ []))
      (c.in_ok-take.ensures group (map (λ e. e.0.now) c.loop-name.yielded) (c.loop-name.invariant.ranked group are)
      (holds_here (λ e. e.1.items ≡ group e.0.now) c.loop-name.yielded c.loop-name.name-iterator c.next.new.self _ (c.in-Some.name, c.in-Some.ids) c.loop-name.invariant.parts c.in-Some.ensures.steps are));
}

pub returns-clause-ranked : goal.returns-clause-ranked
returns-clause-ranked c = λ group are.
    rw (← all_done c.loop-name.yielded c.loop-name.name-iterator c.args.lists.entries c.loop-name.invariant.parts c.in-None.ensures.steps.0) (c.loop-name.invariant.ranked group are)

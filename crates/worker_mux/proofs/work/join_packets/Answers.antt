use Rattle.std.proofs.Common.{◌≡◌, ◌∙◌, true, false, rules}
use Rattle.worker_mux.proofs.Going.{joins_more, gives_more, gives_same}
use Rattle.worker_mux.proofs.work.join_packets.Goals as goal

pub returns-then-not-more_into-clause-gives : goal.returns-then-not-more_into-clause-gives
returns-then-not-more_into-clause-gives g c = λ start before.
    let so : c.more_into.result ≡ false = search rules in
    gives_same g.C.Child.seen _ _ _ _ start (c.more_into.ensures.none so) (c.loop.invariant.gives start before)

pub loop-preserved : goal.loop-preserved
loop-preserved g c =
    let so : c.more_into.result ≡ true = search rules in
    record {
      number = c.more_into.ensures.keeps.number ∙ c.loop.invariant.number;
      own = joins_more g.C.Child.seen _ _ _ _ _ c.loop.invariant.number c.loop.invariant.own (c.more_into.ensures.more so);
      gives = λ start before. gives_more g.C.Child.seen _ _ _ _ start (c.more_into.ensures.more so) (c.loop.invariant.gives start before);
    }

use Rattle.std.proofs.Common.{refl}
use Rattle.worker_mux.proofs.Adding.{all_handed, tape_then}
use Rattle.worker_mux.proofs.Merges.{all_recorded, recorded_where}
use Rattle.worker_mux.proofs.run.all_levels.Goals as goal

pub returns-clause-keeps : goal.returns-clause-keeps
returns-clause-keeps g c = tape_then _ _ _ c.run_level.ensures.goes.keeps c.take_rest.ensures.goes.keeps

pub returns-clause-recorded : goal.returns-clause-recorded
returns-clause-recorded g c = recorded_where _ c.answer_of.ensures
    (λ going no_fault. all_recorded g.C.Child.seen g.L.Listener.heard c.args.listener _ _ _ _ _ _ _ c.of.ensures c.requires.begun.0.taker_new.nothing c.requires.begun.0.taker_new.none_settled c.run_level.ensures.goes c.run_level.ensures.settled c.take_rest.ensures.goes c.take_rest.ensures.settled c.take_rest.ensures.empty c.take_rest.ensures.ready.well c.take_rest.ensures.ready.heard going no_fault)

pub returns-clause-handed : goal.returns-clause-handed
returns-clause-handed g c = all_handed g.L.Listener.heard g.L.Listener.keeps c.args.listener _ _ _ _ _ _ c.of.ensures refl c.requires.begun.1 c.run_level.ensures.goes c.take_rest.ensures.goes

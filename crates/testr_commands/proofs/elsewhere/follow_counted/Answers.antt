use Rattle.std.proofs.Common.{inl, inr, refl}
use Rattle.command_steps.specs.declared.answer.Refusal.TheVariants.{Provision}
use Rattle.testr_commands.proofs.CallLemmas.{none_made, told_refused}
use Rattle.testr_commands.proofs.elsewhere.follow_counted.Goals as goal

pub returns-in-Ok : goal.returns-in-Ok
returns-in-Ok g c = record {
  promises = inr (record {
    given = c.in-Ok.given;
    ready = g.S.Spawner.seen c.provide.new.spawner;
    provides = c.in-Ok.ensures.step;
    goes = c.follow_given.ensures.promises;
  });
  spares_run = c.follow_given.ensures.spares_run;
}

pub returns-in-Err : goal.returns-in-Err
returns-in-Err g c = record {
  promises = inl (record {
    fault = c.in-Err.fault;
    ready = g.S.Spawner.seen c.provide.new.spawner;
    provides = c.in-Err.ensures.step;
    stops = c.stop_unprovided.ensures;
    same = refl;
  });
  spares_run = λ whole. none_made _ _ _ _ _ _ (told_refused (Provision c.in-Err.fault.refusal) _ c.stop_unprovided.ensures.tells.code) refl;
}

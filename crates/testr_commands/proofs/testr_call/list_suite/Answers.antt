use Rattle.std.proofs.Common.{inl, refl}
use Rattle.command_steps.specs.Steps.{stops}
use Rattle.command_steps.proofs.StepLemmas.{part_done}
use Rattle.testr_commands.proofs.testr_call.list_suite.Goals as goal

pub returns-in-Ok : goal.returns-in-Ok
returns-in-Ok g c = λ folder input. record {
  outcome = c.list-outcome.result;
  done = inl (part_done _ _ c.in-Ok.ensures.step (c.list-outcome.ensures folder input));
  told = c.answer.ensures;
}

pub returns-in-Err : goal.returns-in-Err
returns-in-Err g c = λ folder input. record {
  outcome = _;
  done = inl (stops c.in-Err.refusal refl (record { at = c.in-Err.ensures.step; rest = refl }));
  told = c.answer-in-Err.ensures;
}

use Rattle.std.proofs.Common.{inl, sym, ap, ◌∙◌}
use Rattle.std.specs.Prelude.{option_map}
use Rattle.testr_words.specs.Tasks.{selftest}
use Rattle.testr_commands.proofs.Performing.{performs, refuses}
use Rattle.testr_commands.proofs.testr_call.test_itself.Goals as goal

pub returns-in-Some : goal.returns-in-Some
returns-in-Some g c =
    let drawn = ap (option_map selftest) (sym c.in-Some.is ∙ c.drawing_of.ensures) in
    λ folder site spawner input. record { outcome = c.selftest-outcome.result; done = inl (performs _ _ _ drawn (c.selftest-outcome.ensures folder site spawner input)); told = c.answer.ensures }

pub returns-in-None : goal.returns-in-None
returns-in-None g c =
    let undrawn = ap (option_map selftest) (sym c.drawing_of.ensures ∙ c.in-None.is) in
    λ folder site spawner input. record { outcome = _; done = inl (refuses _ undrawn); told = c.answer-in-None.ensures }

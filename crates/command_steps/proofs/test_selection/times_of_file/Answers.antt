use Rattle.std.proofs.Common.{Some, refl, sym, ap, ◌∙◌}
use Rattle.command_steps.specs.Perhaps.{did}
use Rattle.command_steps.proofs.SelectLemmas.{perhaps_stops}
use Rattle.command_steps.proofs.test_selection.times_of_file.Goals as goal

pub returns-in_err-read_times-in-Some : goal.returns-in_err-read_times-in-Some
returns-in_err-read_times-in-Some g c = perhaps_stops c.name_of.result.now _ (c.in-Some.is ∙ ap Some (sym c.name_of.ensures)) c.from_residual.ensures.1 c.in_err-read_times-in-Some.ensures.step

pub returns-in_ok-read_times-in-Some : goal.returns-in_ok-read_times-in-Some
returns-in_ok-read_times-in-Some g c = did c.name_of.result.now _ (c.in-Some.is ∙ ap Some (sym c.name_of.ensures)) refl c.in_ok-read_times-in-Some.ensures.step

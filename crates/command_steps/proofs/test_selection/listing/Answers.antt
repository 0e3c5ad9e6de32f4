use Rattle.std.proofs.Common.{refl}
use Rattle.command_steps.specs.Perhaps.{did}
use Rattle.command_steps.proofs.SelectLemmas.{perhaps_stops, wanted_is}
use Rattle.command_steps.proofs.test_selection.listing.Goals as goal

pub returns-in_err-list_tests-clause-step : goal.returns-in_err-list_tests-clause-step
returns-in_err-list_tests-clause-step g c = perhaps_stops tt _ (wanted_is _ c.if-not-wanted.false) c.from_residual.ensures.1 c.in_err-list_tests.ensures.step

pub returns-clause-step : goal.returns-clause-step
returns-clause-step g c = did tt _ (wanted_is _ c.if-not-wanted.false) refl c.in_ok-list_tests.ensures.step

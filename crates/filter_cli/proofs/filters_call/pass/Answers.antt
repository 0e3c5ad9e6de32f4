use Rattle.std.proofs.Common.{sym, refl}
use Rattle.filter_cli.proofs.ChainLemmas.{takes_as}
use Rattle.filter_cli.proofs.filters_call.pass.Goals as goal

pub returns-in-None : goal.returns-in-None
returns-in-None g c = takes_as _ _ _ _ _ _ (sym c.in-None.is) (record { at = c.pass_input.ensures; rest = refl })

pub returns-in-Some : goal.returns-in-Some
returns-in-Some g c = takes_as _ _ _ _ _ _ (sym c.in-Some.is) (c.perform_on_file.ensures _)

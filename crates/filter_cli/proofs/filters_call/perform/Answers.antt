use Rattle.std.proofs.Common.{refl, sym}
use Rattle.filter_cli.proofs.ChainLemmas.{performs_as}
use Rattle.filter_cli.proofs.filters_call.perform.Goals as goal

pub returns-in-None : goal.returns-in-None
returns-in-None g c = performs_as _ _ _ _ _ _ _ refl (sym c.in-None.is) (record { usage = refl; same = refl })

pub returns-in-Some : goal.returns-in-Some
returns-in-Some g c = performs_as _ _ _ _ _ _ _ refl (sym c.in-Some.is) c.pass.ensures

use Rattle.std.proofs.Common.{refl}
use Rattle.filter_cli.proofs.ChainLemmas.{still_stops, still_done, performs_as}
use Rattle.filter_cli.proofs.filters_call.filter.Goals as goal

pub returns-in_err-request : goal.returns-in_err-request
returns-in_err-request g c = still_stops _ c.from_residual.ensures.1 c.in_err-request.ensures refl

pub returns : goal.returns
returns g c = still_done _ c.in_ok-request.ensures (performs_as _ _ _ _ _ _ _ c.usage_fault.ensures refl c.perform.ensures)

use Rattle.std.proofs.Common.{refl}
use Rattle.filter_cli.proofs.ChainLemmas.{still_stops, still_done, records_named_as}
use Rattle.filter_cli.proofs.named_input.export_named.Goals as goal

pub returns-in_err-rules : goal.returns-in_err-rules
returns-in_err-rules g c input = still_stops _ c.from_residual.ensures.1 c.in_err-rules.ensures.patterns refl

pub returns : goal.returns
returns g c input =
    still_done tt c.in_ok-rules.ensures.patterns (records_named_as _ _ _ _ _ _ c.in_ok-rules.ensures.rules (c.records_named.ensures input))

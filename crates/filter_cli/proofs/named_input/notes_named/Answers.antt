use Rattle.std.proofs.Common.{refl}
use Rattle.filter_cli.proofs.ChainLemmas.{still_stops}
use Rattle.filter_cli.proofs.named_input.notes_named.Goals as goal

pub returns-in_err-notes : goal.returns-in_err-notes
returns-in_err-notes g c input = still_stops _ c.from_residual.ensures.1 tt refl

pub returns : goal.returns
returns g c input = rw (c.in_ok-notes.ensures.filter) at (c.pump_named.ensures input)

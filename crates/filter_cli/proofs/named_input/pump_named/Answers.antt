use Rattle.std.proofs.Common.{refl}
use Rattle.filter_cli.specs.Steps.{stops, goes_on}
use Rattle.filter_cli.proofs.ChainLemmas.{gives, file_as, made}
use Rattle.filter_cli.proofs.named_input.pump_named.Goals as goal

pub returns-in-Ok : goal.returns-in-Ok
returns-in-Ok g c input = made _ _ _ _ _ _ (goes_on c.in-Ok.end _ (file_as _ _ _ _ _ _ _ c.word_of.ensures (c.in-Ok.ensures input)) gives)

pub returns-in-Err : goal.returns-in-Err
returns-in-Err g c input = made _ _ _ _ _ _ (stops c.in-Err.fault refl (file_as _ _ _ _ _ _ _ c.word_of.ensures (c.in-Err.ensures input)))

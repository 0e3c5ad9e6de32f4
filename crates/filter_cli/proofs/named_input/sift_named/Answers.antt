use Rattle.std.proofs.Common.{refl}
use Rattle.filter_cli.proofs.ChainLemmas.{still_stops}
use Rattle.filter_cli.proofs.named_input.sift_named.Goals as goal

pub returns-in_err-predicate : goal.returns-in_err-predicate
returns-in_err-predicate g c input = still_stops _ c.from_residual.ensures.1 tt refl

pub returns : goal.returns
returns g c input = rw (c.new-sifting.ensures.rules, c.new-sifting.ensures.hidden) at (c.notes_named.ensures input)

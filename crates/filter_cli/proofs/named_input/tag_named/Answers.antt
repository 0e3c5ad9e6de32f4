use Rattle.std.proofs.Common.{refl}
use Rattle.filter_cli.proofs.ChainLemmas.{still_stops}
use Rattle.filter_cli.proofs.named_input.tag_named.Goals as goal

pub returns-in_err-tagging : goal.returns-in_err-tagging
returns-in_err-tagging g c input = still_stops _ c.from_residual.ensures.1 tt refl

pub returns : goal.returns
returns g c input = rw (c.in_ok-tagging.ensures.tagger) at (c.notes_named.ensures input)

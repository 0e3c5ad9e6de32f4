use Rattle.std.proofs.Common.{arith}
use Rattle.stream_reader.proofs.GivingLemmas.{spent_empty}
use Rattle.stream_reader.proofs.reader.Reader.first_seen.Goals as goal

pub returns-then-held-eq0-clause-seen : goal.returns-then-held-eq0-clause-seen
returns-then-held-eq0-clause-seen c = spent_empty _ _ (omega (arith, c.held.ensures.held, c.if-held-eq0.true))

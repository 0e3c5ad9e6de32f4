use Rattle.stream_reader.proofs.RunLemmas.{foreign_ended}
use Rattle.stream_reader.proofs.reader.Reader.finish.Goals as goal

pub invariant_of-self : goal.invariant_of-self
invariant_of-self c = (c.self.invariant.0, c.self.invariant.1, foreign_ended _ _ _ c.self.invariant.2, c.self.invariant.3)

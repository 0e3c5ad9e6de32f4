use Rattle.v1_bridge.specs.Writing.{events_in}
use Rattle.v1_bridge.proofs.WriteLemmas.{ends_with}
use Rattle.v1_bridge.proofs.writer.V1Writer.close.Goals as goal

pub returns : goal.returns
returns c = record { text = λ notes has. ends_with notes c.args.self.last _ _ _ has.last (c.in_ok-parts.ensures (events_in notes) has.seen) c.in_ok-put_parts.ensures }

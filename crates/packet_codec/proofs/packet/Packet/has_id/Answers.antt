use Rattle.packet_codec.proofs.FieldLemmas.{short_id, id_made, same_text}
use Rattle.packet_codec.proofs.packet.Packet.has_id.Goals as goal

pub is_same_run-requires : goal.is_same_run-requires
is_same_run-requires c = short_id _ _ _ c.self.invariant

pub returns : goal.returns
returns c = λ e s. same_text _ _ _ (id_made _ _ _ c.self.invariant e (rw (← c.self.view_is) at s)) c.is_same_run.ensures

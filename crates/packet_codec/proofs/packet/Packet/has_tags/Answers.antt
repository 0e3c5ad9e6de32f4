use Rattle.packet_codec.proofs.FieldLemmas.{short_tags, tags_same}
use Rattle.packet_codec.proofs.packet.Packet.has_tags.Goals as goal

pub are_same_tags-requires : goal.are_same_tags-requires
are_same_tags-requires c = short_tags _ _ _ c.self.invariant

pub returns : goal.returns
returns c = λ e s. tags_same _ _ _ c.self.invariant e (rw (← c.self.view_is) at s) _ (rw c.list.ensures at c.are_same_tags.ensures)

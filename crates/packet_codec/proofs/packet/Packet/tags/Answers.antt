use Rattle.packet_codec.proofs.FieldLemmas.{short_tags, tags_made}
use Rattle.packet_codec.proofs.packet.Packet.tags.Goals as goal

pub optional_tags-requires : goal.optional_tags-requires
optional_tags-requires c = short_tags _ _ _ c.self.invariant

pub returns : goal.returns
returns c = λ e s. tags_made _ _ _ c.self.invariant e (rw (← c.self.view_is) at s) _ c.optional_tags.ensures

use Rattle.packet_codec.proofs.LookLemmas.{is_front_packet, is_no_packet}
use Rattle.packet_codec.proofs.front_reader.see_whole.Goals as goal

pub returns-in-Some : goal.returns-in-Some
returns-in-Some c = is_front_packet _ _ c.args.header c.requires.stands c.requires.size c.in-Some.ensures.found.0 c.in-Some.ensures.found.1

pub returns-in-None : goal.returns-in-None
returns-in-None c = is_no_packet _ c.args.header c.type_inv.bytes c.requires.stands c.requires.size c.in-None.ensures.none

use Rattle.packet_codec.proofs.GrammarLemmas.{fits_from_are}
use Rattle.packet_codec.proofs.PacketLemmas.{one_event, no_front}
use Rattle.packet_codec.proofs.laws.packets_are_one_event.Goals as goal

pub returns-clause-one_event : goal.returns-clause-one_event
returns-clause-one_event c = λ bytes d e are s t. one_event bytes d e (fits_from_are bytes are) s t

pub returns-clause-no_front : goal.returns-clause-no_front
returns-clause-no_front c = λ a b x y d e are are' s t whole. no_front a b x y d e (fits_from_are a are) (fits_from_are b are') s t whole

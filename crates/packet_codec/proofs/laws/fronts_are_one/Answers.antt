use Rattle.packet_codec.proofs.AnswerLemmas.{one_front}
use Rattle.packet_codec.proofs.laws.fronts_are_one.Goals as goal

pub returns : goal.returns
returns c = one_front

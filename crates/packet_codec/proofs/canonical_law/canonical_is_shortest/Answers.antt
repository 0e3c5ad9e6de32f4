use Rattle.packet_codec.proofs.SpellingLemmas.{canonical_shortest, length_canonical}
use Rattle.packet_codec.proofs.LeastLemmas.{spelled_fits}
use Rattle.packet_codec.proofs.AloneLemmas.{packet_alone}
use Rattle.packet_codec.proofs.canonical_law.canonical_is_shortest.Goals as goal

pub returns-clause-shortest : goal.returns-clause-shortest
returns-clause-shortest c = canonical_shortest

pub returns-clause-only : goal.returns-clause-only
returns-clause-only c = spelled_fits

pub returns-clause-size : goal.returns-clause-size
returns-clause-size c = length_canonical

pub returns-clause-alone : goal.returns-clause-alone
returns-clause-alone c = packet_alone

use Rattle.std.proofs.Common.{sym, ◌∙◌}
use Rattle.std.proofs.lemmas.Result.{MatchResult-weaker}
use Rattle.event_sift.proofs.PacketLemmas.{stays}
use Rattle.event_sift.proofs.packet_sift.PacketSift.hear_other.Goals as goal

pub returns-in_default-clause-held : goal.returns-in_default-clause-held
returns-in_default-clause-held g c = λ seen e s part has.
    MatchResult-weaker c.put_shortest.result (c.put_shortest.ensures.ok e s) (λ _ _. stays seen e _ has (sym c.in_default.is ∙ c.in_ok-key.ensures e s)) (λ _ _. tt)

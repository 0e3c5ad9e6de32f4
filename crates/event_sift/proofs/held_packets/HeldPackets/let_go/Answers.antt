use Rattle.std.proofs.Common.{sym, ◌∙◌}
use Rattle.event_sift.specs.PacketSifted.{other_packets_in}
use Rattle.event_sift.proofs.PacketLemmas.{last_gone}
use Rattle.event_sift.proofs.held_packets.HeldPackets.let_go.Goals as goal

pub returns-clause-rest : goal.returns-clause-rest
returns-clause-rest c = λ last is.
    last_gone c.args.self.now.last c.forget.new.self.last (other_packets_in c.args.self.now) (other_packets_in c.forget.new.self) c.in_ok-last.last last (sym c.in_ok-last.ensures.value) is (c.forget.ensures.last ∙ c.in_ok-last.ensures.after) c.forget.ensures.others

use Rattle.std.proofs.Common.{ap, ◌∙◌, sym, subst, List, ℕ}
use Rattle.std.specs.Prelude.{length}
use Rattle.packet_codec.specs.Packet.{SpellsEvent}
use Rattle.old_runs.proofs.failing_tests.hear_packet.Goals as goal

pub returns-clause-size : goal.returns-clause-size
returns-clause-size c = λ event behind found. c.size.ensures.size ∙ ap length (c.front_packet-packet.ensures.only event behind found)

pub returns-clause-heard : goal.returns-clause-heard
returns-clause-heard c = λ seen event behind found folded.
    c.in_ok-hear.ensures.ok seen event (subst (λ (l : List ℕ). SpellsEvent l event) (sym (c.front_packet-packet.ensures.only event behind found)) found.spelled) folded

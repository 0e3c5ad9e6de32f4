use Rattle.std.proofs.Common.{ap, ◌∙◌, sym, subst, List, ℕ}
use Rattle.std.specs.Prelude.{length}
use Rattle.packet_codec.specs.Packet.{SpellsEvent}
use Rattle.run_ledger.proofs.written_run.hear_packet.Goals as goal

pub returns-clause-size : goal.returns-clause-size
returns-clause-size g c = λ event behind found. c.size.ensures.size ∙ ap length (c.front_packet-packet.ensures.only event behind found)

pub returns-clause-summed : goal.returns-clause-summed
returns-clause-summed g c = λ filter_tags seen event behind found summed.
    c.in_ok-hear_with.ensures.summed filter_tags seen event (subst (λ (l : List ℕ). SpellsEvent l event) (sym (c.front_packet-packet.ensures.only event behind found)) found.spelled) summed

pub returns-clause-heard : goal.returns-clause-heard
returns-clause-heard g c = λ filter_tags seen event behind begun rows found summed told.
    c.in_ok-hear_with.ensures.heard filter_tags seen event begun rows (subst (λ (l : List ℕ). SpellsEvent l event) (sym (c.front_packet-packet.ensures.only event behind found)) found.spelled) summed told

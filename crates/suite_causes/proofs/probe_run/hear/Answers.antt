use Rattle.std.proofs.Common.{ℕ, List, [], sym, ◌∙◌, subst, append-nil}
use Rattle.packet_codec.specs.Grammar.{SpellsFront}
use Rattle.packet_codec.specs.Packet.{SpellsEvent}
use Rattle.packet_codec.specs.declared.event.Event.{Event}
use Rattle.suite_causes.proofs.ProbeLemmas.{packet_stands}
use Rattle.suite_causes.proofs.probe_run.hear.Goals as goal

pub front_packet-packet-requires : goal.front_packet-packet-requires
front_packet-packet-requires c =
    subst (λ (l : List ℕ). (event : Event) × (behind : List ℕ) × SpellsFront SpellsEvent l event behind) (sym c.bytes.ensures) (packet_stands c.args.packet.now c.requires.packet)

pub returns : goal.returns
returns c = λ seen event spells summed.
    let found : SpellsFront SpellsEvent c.bytes.result.now event [] = record { front = c.args.packet.now; parts = c.bytes.ensures ∙ sym (append-nil c.args.packet.now); spelled = spells } in
    c.hear.ensures [] seen event (subst (λ (l : List ℕ). SpellsEvent l event) (sym (c.front_packet-packet.ensures.only event [] found)) spells) summed

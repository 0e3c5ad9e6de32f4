use Rattle.std.proofs.Common.{sym, ◌∙◌, ap}
use Rattle.std.specs.FinMap as map
use Rattle.std.proofs.lemmas.Result.{on_ok_weaker}
use Rattle.packet_codec.specs.Canonical.{canonical}
use Rattle.outcome_fold.specs.EndedParts.{row_of_part}
use Rattle.event_sift.specs.declared.held_packets.HeldPackets.{HeldPackets}
use Rattle.event_sift.specs.Keeping.{keeps}
use Rattle.event_sift.specs.PacketSifted.{open_packets, held_packets_in}
use Rattle.event_sift.proofs.PacketLemmas.{no_row, its_row, goes_on, ends, last_goes_on, last_ends, packets_of_last, at_ending}
use Rattle.event_sift.proofs.packet_sift.PacketSift.hear_last.Goals as goal

pub returns-in_default-clause-held : goal.returns-in_default-clause-held
returns-in_default-clause-held g c = λ seen e last s part next.
    on_ok_weaker c.go_on.result
    (λ more. goes_on seen e last.key _ next.test (no_row seen e (sym c.in_default.is ∙ part)) (last_goes_on _ _ (open_packets seen) last next.heard next.packets _ _ (canonical e) more c.go_on.ensures.others))
    (c.go_on.ensures.last e last s next.heard)

pub returns-clause-released : goal.returns-clause-released
returns-clause-released g c = λ seen e last s part next.
    let own = packets_of_last _ _ (open_packets seen) last next.heard next.packets in
    on_ok_weaker c.finish.result
    (λ is. at_ending (keeps c.args.self.now.rules.now) seen e last (row_of_part c.in-Some.part) c.in_ok-kept.kept c.args.out.now.items _ next.test (its_row seen e c.in-Some.part (sym c.in-Some.is ∙ part)) own c.in_ok-kept.ensures.kept is)
    (c.finish.ensures.out e last s (ap (λ (held : HeldPackets). held.last) c.in_ok-kept.ensures.held ∙ next.heard))

pub returns-clause-held : goal.returns-clause-held
returns-clause-held g c = λ seen e last s part next.
    on_ok_weaker c.finish.result
    (λ gone. ends seen e last.key (row_of_part c.in-Some.part) _ next.test (its_row seen e c.in-Some.part (sym c.in-Some.is ∙ part))
    (last_ends _ _ (open_packets seen) last next.heard next.packets _ (gone ∙ ap (λ (held : HeldPackets). map.remove (held_packets_in held) last.key) c.in_ok-kept.ensures.held)))
    (c.finish.ensures.held last (ap (λ (held : HeldPackets). held.last) c.in_ok-kept.ensures.held ∙ next.heard))

use Rattle.std.proofs.Common.{◌≡◌, sym, Some, subst}
use Rattle.std.specs.Prelude.{IsSomeAnd}
use Rattle.outcome_fold.specs.Parts.{test_of}
use Rattle.event_sift.specs.declared.held_packets.HeldTest.{HeldTest}
use Rattle.event_sift.proofs.PacketLemmas.{test_said}
use Rattle.event_sift.proofs.held_packets.HeldPackets.holds.Goals as goal

pub returns-then-has_id : goal.returns-then-has_id
returns-then-has_id c = λ e s yes.
    subst (λ o. IsSomeAnd o (λ (last : HeldTest). test_of e ≡ Some last.key)) (sym c.in-Some.is)
    (test_said e c.in-Some.last.key.route c.in-Some.last.key.id (sym ((c.has_id.ensures e s).0 c.if-has_id.true)) (sym ((c.has_route.ensures e s).0 yes)))

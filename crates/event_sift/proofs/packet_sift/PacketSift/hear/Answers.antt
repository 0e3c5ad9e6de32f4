use Rattle.std.proofs.Common.{◌∙◌, ap}
use Rattle.std.proofs.lemmas.Result.{on_ok_weaker}
use Rattle.outcome_fold.specs.Folded.{open_in}
use Rattle.event_sift.specs.PacketSifted.{open_packets}
use Rattle.event_sift.proofs.PacketLemmas.{the_last, begun_last}
use Rattle.event_sift.proofs.packet_sift.PacketSift.hear.Goals as goal

pub returns-then-holds-clause-released : goal.returns-then-holds-clause-released
returns-then-holds-clause-released g c = λ seen e s has.
    let last = the_last c.args.self.now.held.last e (c.holds.ensures e s c.if-holds.true) in
    c.hear_last.ensures.released seen e last.0 s (c.in_ok-part.ensures.part seen e s has.folded) (record { heard = last.1; test = last.2; packets = begun_last _ _ (open_packets seen) last.0 last.1 has.held })

pub returns-then-holds-clause-taken : goal.returns-then-holds-clause-taken
returns-then-holds-clause-taken g c = λ seen e s has.
    let last = the_last c.args.self.now.held.last e (c.holds.ensures e s c.if-holds.true) in
    on_ok_weaker c.hear_last.result (λ held. record { folded = ap open_in c.hear_last.ensures.fold ∙ c.in_ok-part.ensures.ok seen e s has.folded; held = held })
    (c.hear_last.ensures.held seen e last.0 s (c.in_ok-part.ensures.part seen e s has.folded) (record { heard = last.1; test = last.2; packets = begun_last _ _ (open_packets seen) last.0 last.1 has.held }))

pub returns-clause-taken : goal.returns-clause-taken
returns-clause-taken g c = λ seen e s has.
    on_ok_weaker c.hear_other.result (λ held. record { folded = ap open_in c.hear_other.ensures.fold ∙ c.in_ok-part.ensures.ok seen e s has.folded; held = held })
    (c.hear_other.ensures.held seen e s (c.in_ok-part.ensures.part seen e s has.folded) has.held)

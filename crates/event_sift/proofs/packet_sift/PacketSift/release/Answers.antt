use Rattle.std.proofs.Common.{◌++◌, ◌∙◌, ap}
use Rattle.std.proofs.lemmas.Result.{on_ok_weaker}
use Rattle.event_sift.specs.Keeping.{keeps}
use Rattle.event_sift.proofs.PacketLemmas.{at_end}
use Rattle.event_sift.proofs.packet_sift.PacketSift.release.Goals as goal

pub returns : goal.returns
returns g c = λ seen has is.
    on_ok_weaker c.release_all.result
    (λ released. released ∙ ap (λ packets. c.args.out.now.items ++ packets) (at_end (keeps c.args.self.now.rules.now) seen _ _ (c.in_ok-set_aside.ensures.1 ∙ is) (c.in_ok-parts.ensures seen has)))
    c.release_all.ensures

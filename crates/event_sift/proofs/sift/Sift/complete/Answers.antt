use Rattle.std.proofs.lemmas.Result.{IfOk-weaker}
use Rattle.event_sift.specs.Keeping.{keeps}
use Rattle.event_sift.proofs.HeldLemmas.{completed_is}
use Rattle.event_sift.proofs.SiftLemmas.{part_completed}
use Rattle.event_sift.proofs.sift.Sift.complete.Goals as goal

pub returns-clause-released : goal.returns-clause-released
returns-clause-released g c seen has =
    IfOk-weaker c.if_kept.result _ _ (λ events is. part_completed (keeps c.args.self.now.rules.now) seen c.args.event c.args.key c.args.ended c.in_ok-part.part _ events.items (completed_is seen c.args.event _ c.args.key _ has c.in_ok-part.ensures.part) c.instant_of-end.ensures is) c.if_kept.ensures.kept

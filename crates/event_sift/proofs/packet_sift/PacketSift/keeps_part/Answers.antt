use Rattle.std.proofs.lemmas.Result.{IfOk-weaker}
use Rattle.event_sift.proofs.KeepingLemmas.{kept_part}
use Rattle.event_sift.proofs.packet_sift.PacketSift.keeps_part.Goals as goal

pub returns-clause-kept : goal.returns-clause-kept
returns-clause-kept g c = IfOk-weaker c.is_kept.result _ _ (λ kept. kept_part _ _ c.args.part.now kept c.requires.faithful) c.is_kept.ensures.kept

use Rattle.std.proofs.Common.{◌∙◌, ◌++◌, sym, ap}
use Rattle.std.proofs.lemmas.List.{append-nil}
use Rattle.std.proofs.lemmas.Result.{on_ok_weaker}
use Rattle.event_sift.proofs.PacketLemmas.{found_packets}
use Rattle.event_sift.proofs.held_packets.HeldPackets.put.Goals as goal

pub returns-in-Some : goal.returns-in-Some
returns-in-Some c = on_ok_weaker c.put.result (λ is. is ∙ ap (λ packets. c.args.out.now.items ++ packets) (found_packets _ _ _ c.in-Some.ensures.value)) c.put.ensures

pub returns-in-None : goal.returns-in-None
returns-in-None c = sym (append-nil c.args.out.now.items) ∙ ap (λ packets. c.args.out.now.items ++ packets) (found_packets _ _ _ c.in-None.ensures.value)

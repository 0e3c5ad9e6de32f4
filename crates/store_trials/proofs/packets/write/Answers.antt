use Rattle.store_trials.proofs.PacketLemmas.{packets_more}
use Rattle.store_trials.proofs.packets.write.Goals as goal

pub returns : goal.returns
returns c = λ so_far. packets_more c.args.run.now.items c.encode.new.out.items c.args.event.now c.requires.0 c.requires.1 c.in-Ok.ensures.ok so_far

use Rattle.suite_run.proofs.EarLemmas.{echo_packets}
use Rattle.suite_run.proofs.run_listener.hand_on.Goals as goal

pub returns-in-Packets : goal.returns-in-Packets
returns-in-Packets g c start seen events are takes = echo_packets c.args.echo seen events c.args.packets.now start _ _ _ _ c.in-Packets.is are takes c.say.ensures.takes

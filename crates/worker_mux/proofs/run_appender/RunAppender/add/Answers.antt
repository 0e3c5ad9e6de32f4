use Rattle.std.proofs.Common.{refl}
use Rattle.worker_mux.proofs.Adding.{part_broken}
use Rattle.worker_mux.proofs.run_appender.RunAppender.add.Goals as goal

pub returns-in-Err-clause-part : goal.returns-in-Err-clause-part
returns-in-Err-clause-part g c = part_broken _ _ c.args.packet.now c.in-Err.call refl c.in-Err.ensures.not_added

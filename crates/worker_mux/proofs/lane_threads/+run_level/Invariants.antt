use Rattle.std.proofs.Common.{length}
use Rattle.worker_mux.proofs.lane_threads.+run_level.Given as goal

abbrev pub decreases-run_level : goal.decreases-run_level
decreases-run_level g l = length l.works.now.items

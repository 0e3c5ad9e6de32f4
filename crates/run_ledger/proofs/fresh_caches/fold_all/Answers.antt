use Rattle.std.proofs.Common.{sym, subst, Option, IfSome}
use Rattle.edge_io.specs.Disk.{Folder}
use Rattle.run_shelf.proofs.ReadingLemmas.{reads_then, same_state}
use Rattle.run_ledger.specs.Cached.{ReadsSound}
use Rattle.run_ledger.specs.Ledger.{AreTimes}
use Rattle.run_ledger.proofs.ClosesLemmas.{done_telling, tells_again, tells_done}
use Rattle.run_ledger.proofs.RefreshLemmas.{are_folds}
use Rattle.run_ledger.proofs.fresh_caches.fold_all.Goals as goal

pub returns-in_err-ids-clause-reads : goal.returns-in_err-ids-clause-reads
returns-in_err-ids-clause-reads g c = tells_again _ _ _ _ c.in_err-ids.ensures.reads c.from_residual.ensures.1

pub returns-in_err-times-clause-reads : goal.returns-in_err-times-clause-reads
returns-in_err-times-clause-reads g c =
    tells_again _ _ _ _ (reads_then _ _ _ _ _ (done_telling _ _ _ c.in_ok-ids.ensures.reads) c.in_err-times.ensures.reads) c.from_residual-in_err-times.ensures.1

pub returns-clause-reads : goal.returns-clause-reads
returns-clause-reads g c = tells_done _ _ _ (reads_then _ _ _ _ _ (done_telling _ _ _ c.in_ok-ids.ensures.reads) (done_telling _ _ _ c.in_ok-times.ensures.reads))

pub returns-clause-folds : goal.returns-clause-folds
returns-clause-folds g c sound =
    let same = same_state _ _ (done_telling _ _ _ c.in_ok-ids.ensures.reads).same in
    are_folds _ _ _ (c.in_ok-ids.ensures.ids sound)
    (subst (λ (state : Option Folder). IfSome state (AreTimes c.in_ok-times.times)) same (c.in_ok-times.ensures.times (subst (λ (state : Option Folder). IfSome state ReadsSound) (sym same) sound)))

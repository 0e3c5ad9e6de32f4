use Rattle.std.proofs.Common.{Ok, Err, inl}
use Rattle.old_folder.specs.Olds.{next_name, failing_name}
use Rattle.old_copies.specs.Copying.{Either, IsName, IsRunBelow, IsCopiedFirst}
use Rattle.old_copies.proofs.StepLemmas.{failed_wider, step_then}
use Rattle.old_copies.proofs.folder_copy.copy_first.Goals as goal

pub returns-in-Err : goal.returns-in-Err
returns-in-Err g c =
    failed_wider {T = Unit {0}} (IsName next_name) (IsCopiedFirst c.args.count) c.args.from.now _ _ c.in-Err.fault (λ name named. inl (inl named)) c.in-Err.ensures

pub copy_file-requires-2 : goal.copy_file-requires-2
copy_file-requires-2 g c = record { rest = c.in-Ok.ensures.rest }

pub returns-in-Err-copy_file : goal.returns-in-Err-copy_file
returns-in-Err-copy_file g c =
    failed_wider {T = Unit {0}} (Either (IsName next_name) (IsName failing_name)) (IsCopiedFirst c.args.count) c.args.from.now _ _ c.in-Err-copy_file.fault (λ name named. inl named)
    (step_then (IsName next_name) (IsName failing_name) c.args.from.now _ _ _ tt c.in-Ok.ensures (Err c.in-Err-copy_file.fault) c.in-Err-copy_file.ensures)

pub copy_runs-requires-clause-rest : goal.copy_runs-requires-clause-rest
copy_runs-requires-clause-rest g c = c.in-Ok-copy_file.ensures.rest

pub returns : goal.returns
returns g c =
    step_then (Either (IsName next_name) (IsName failing_name)) (IsRunBelow c.args.count) c.args.from.now _ _ _ tt
    (step_then (IsName next_name) (IsName failing_name) c.args.from.now _ _ _ tt c.in-Ok.ensures (Ok tt) c.in-Ok-copy_file.ensures)
    c.copy_runs.result c.copy_runs.ensures

use Rattle.old_copies.proofs.WholeLemmas.{all_stop, all_then}
use Rattle.old_copies.proofs.folder_copy.copy_all.Goals as goal

pub returns-in-Err : goal.returns-in-Err
returns-in-Err g c = all_stop {T = Unit {0}} c.args.count c.args.from.now _ _ c.in-Err.fault c.in-Err.ensures

pub copy_file-requires : goal.copy_file-requires
copy_file-requires g c = record { rest = c.in-Ok.ensures.rest }

pub returns : goal.returns
returns g c = all_then c.args.count c.args.from.now _ _ _ tt c.copy_file.result c.in-Ok.ensures c.copy_file.ensures

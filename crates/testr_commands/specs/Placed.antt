-- Whether a file may have got its name, by the call of the folder that failed.
use Rattle.std.specs.Prelude.{Bool, true, false}
use Rattle.run_shelf.specs.declared.faults.ShelfCall.{ShelfCall}
use Rattle.run_shelf.specs.declared.faults.ShelfCall.TheVariants.{Publish, SyncFolder}

-- whether the file that was to get its name may be there, by the call that failed
abbrev pub may_have_placed : ShelfCall → Bool
may_have_placed Publish = true
may_have_placed SyncFolder = true
may_have_placed call = false

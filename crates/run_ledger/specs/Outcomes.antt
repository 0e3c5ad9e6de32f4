-- What a call that reads the runs of a store says of the store (docs/DISK.md, "Faults").
use Rattle.std.specs.Prelude.{◌≡◌, ◌↔◌, Bool, true, false, Option, Some, Result, Ok, Err}
use Rattle.run_shelf.specs.declared.faults.ShelfCall.{ShelfCall}
use Rattle.run_shelf.specs.declared.faults.StoreFault.TheVariants.{Shelf, Closed}
use Rattle.run_shelf.specs.Stores.{StoreSeen, Reads}
use Rattle.run_ledger.specs.declared.fault.LedgerFault.{LedgerFault}
use Rattle.run_ledger.specs.declared.fault.LedgerFault.TheVariants.{Store, NoMemory}

-- whether a call of the folder failed
abbrev pub ledger_failed : {T : Type 0} → Result T LedgerFault → Bool
ledger_failed (Ok done) = false
ledger_failed (Err (Store (Shelf call))) = true
ledger_failed (Err (Store (Closed call))) = false
ledger_failed (Err NoMemory) = false

-- the call that failed after which the store is closed: this one's, or the one before it
abbrev pub closed_by : {T : Type 0} → Option ShelfCall → Result T LedgerFault → Option ShelfCall
closed_by before (Ok done) = before
closed_by before (Err (Store (Shelf call))) = Some call
closed_by before (Err (Store (Closed call))) = before
closed_by before (Err NoMemory) = before

-- `Closed` comes exactly after a fault, with its call, and each fault is kept
pub record LedgerCloses {T : Type 0} (before after : Option ShelfCall) (result : Result T LedgerFault) : Type 0 where
  pub closed : (call : ShelfCall) → (result ≡ Err (Store (Closed call))) ↔ (before ≡ Some call)
  pub kept : after ≡ closed_by before result

-- the store was only read, or closed by a fault
abbrev pub LedgerReads : {T : Type 0} → StoreSeen → StoreSeen → Result T LedgerFault → Type 0
LedgerReads before after result = Reads before after (λ old new. LedgerCloses old new result) (ledger_failed result)

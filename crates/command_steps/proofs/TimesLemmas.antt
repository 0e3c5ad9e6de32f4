-- What the bytes of a file of times say of it.
use Rattle.std.proofs.Common.{◌≡◌, ℕ, Option, None, Some, IfSome, List, subst}
use Rattle.std.specs.Prelude.{IfNone}
use Rattle.std.specs.FinMap.{FinMap}
use Rattle.edge_io.specs.Disk.{Files}
use Rattle.outcome_fold.specs.Order.{text_cmp}
use Rattle.run_ledger.specs.Caches.{IsTimesCache}
use Rattle.command_steps.specs.TimesFile.{HasTimesFile, HasNoTimes}

-- bytes of another form are no times
pub other_form : {T : Type 0} (name bytes given : List ℕ) (told : Option Files) (found : Option T) → given ≡ bytes → IfSome told (λ files. HasTimesFile files name bytes) → found ≡ None → IfNone found ((covers : ℕ) (times : FinMap text_cmp ℕ) → IsTimesCache given covers times → ⊥) → IfSome told (HasNoTimes name)
other_form name bytes given None found are has is none = tt
other_form name bytes given (Some files) (Some cache) are has is none = cc
other_form name bytes given (Some files) None are has is none = record {
  bytes = bytes;
  has = has;
  other = subst (λ (l : List ℕ). (covers : ℕ) (times : FinMap text_cmp ℕ) → IsTimesCache l covers times → ⊥) are none;
}

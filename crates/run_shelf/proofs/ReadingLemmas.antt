-- What a store is after several calls that only read it.
use Rattle.std.proofs.Common.{◌≡◌, ℕ, inl, inr, Bool, false, Option, None, Some, refl, ◌∙◌, subst, arith}
use Rattle.edge_io.specs.Causes.{RisesExactlyIf}
use Rattle.edge_io.specs.Disk.{Folder}
use Rattle.edge_io.specs.Steps.{Goes, Stays}
use Rattle.edge_io.proofs.Going.{goes_then}
use Rattle.run_shelf.specs.declared.faults.ShelfCall.{ShelfCall}
use Rattle.run_shelf.specs.Outcomes.{TicksAtMost, TicksUpTo}
use Rattle.run_shelf.specs.Stores.{StoreSeen, Reads}

-- the store was open, and is
abbrev pub StaysOpen : Option ShelfCall → Option ShelfCall → Type 0
StaysOpen before after = (before ≡ None) × (after ≡ before)

pub same_state : (a b : Option Folder) → Goes a b Stays → b ≡ a
same_state None None same = refl
same_state None (Some t) same = absurd same
same_state (Some s) None same = absurd same
same_state (Some s) (Some t) same = λ i. Some (same i)

pub stays_stays : (a b c : Option Folder) → Goes a b Stays → Goes b c Stays → Goes a c Stays
stays_stays a b c first second = goes_then a b c Stays Stays Stays first second (λ s m t one two. two ∙ one)

module _ (a b c : StoreSeen) (Closed : Option ShelfCall → Option ShelfCall → Type 0) (failed : Bool) where
  -- what was read before leaves the store as it was
  pub reads_then : Reads a b StaysOpen false → Reads b c Closed failed → Reads a c Closed failed
  reads_then first second = record {
    closes = subst (λ (fault : Option ShelfCall). Closed fault c.fault) first.closes.1 second.closes;
    kinds = second.kinds ∙ first.kinds;
    same = stays_stays _ _ _ first.same second.same;
    fits = second.fits;
    cause = subst (λ (n : ℕ). RisesExactlyIf n c.folder.faults failed) (first.cause.stands refl) second.cause;
  }

module _ (a b : StoreSeen) (Closed Other : Option ShelfCall → Option ShelfCall → Type 0) (failed : Bool) where
  pub reads_as : (Closed a.fault b.fault → Other a.fault b.fault) → Reads a b Closed failed → Reads a b Other failed
  reads_as weaker reads = record { closes = weaker reads.closes; kinds = reads.kinds; same = reads.same; fits = reads.fits; cause = reads.cause }

pub at_most_one : (before now : ℕ) → TicksAtMost before now → TicksUpTo 1 before now
at_most_one before now (inl same) = omega (arith, same)
at_most_one before now (inr more) = omega (arith, more)

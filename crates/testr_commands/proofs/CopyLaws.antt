-- What the copy of a run keeps, and what is true where it refuses.
use Rattle.std.proofs.Common.{ℕ, List, Result, Ok, Err, refl}
use Rattle.edge_io.specs.Disk.{Files}
use Rattle.edge_io.specs.Seen.{Seen}
use Rattle.edge_io.specs.Spawners.{Spawning}
use Rattle.command_steps.specs.Refusals.{fault_place_of}
use Rattle.command_steps.specs.Copying.{CopiesRun, copy_refusal}
use Rattle.command_steps.specs.Outside.{Work, Shown, work, SameCounts, RisesAt}
use Rattle.command_steps.specs.declared.run_copy.CopyFault.{CopyFault}
use Rattle.command_steps.specs.declared.run_copy.CopyFault.TheVariants.{Read, Write}
use Rattle.command_steps.specs.declared.question_answers.TellFault.TheVariants as tell_fault
use Rattle.command_steps.proofs.Resting.{rests_of_stays}
use Rattle.testr_commands.proofs.ChainLemmas.{IsQuiet, IsRefused}

module _ (site : Seen Files) (spawner : Seen Spawning) (input : Seen (List ℕ)) (number : ℕ) (a b : Shown) where
  abbrev see : Shown → Work
  see w = work w.folder site spawner input w.out

  pub copy_counts : (done : Unit {0}) → CopiesRun number a b (Ok done) → SameCounts (see a) (see b)
  copy_counts done copies = record { folder = copies.counts.reads.stands refl; site = refl; spawner = refl; input = refl; out = copies.counts.writes.stands refl }

  pub copy_quiet : (result : Result (Unit {0}) CopyFault) → CopiesRun number a b result → IsQuiet (see a) (see b)
  copy_quiet result copies = rests_of_stays a.folder.told b.folder.told copies.counts.same

  copy_rises : (fault : CopyFault) → CopiesRun number a b (Err fault) → RisesAt (fault_place_of (copy_refusal fault)) (see a) (see b)
  copy_rises (Read tell_fault.Shelf) copies = (copies.counts.reads.rose refl, refl, refl, refl, copies.counts.writes.stands refl)
  copy_rises (Read tell_fault.NoMemory) copies = record { folder = copies.counts.reads.stands refl; site = refl; spawner = refl; input = refl; out = copies.counts.writes.stands refl }
  copy_rises (Write fault) copies = (copies.counts.writes.rose refl, copies.counts.reads.stands refl, refl, refl, refl)

  pub copy_refuses : {Starts : Type 0} (fault : CopyFault) → CopiesRun number a b (Err fault) → IsRefused Starts (copy_refusal fault) (see a) (see b)
  copy_refuses (Read fault) copies = record { named = tt; counts = copy_rises (Read fault) copies; child = λ c. absurd c }
  copy_refuses (Write fault) copies = record { named = tt; counts = copy_rises (Write fault) copies; child = λ c. absurd c }

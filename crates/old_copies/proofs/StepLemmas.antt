-- Steps of a copy, one after another.
use Rattle.std.proofs.Common.{◌≡◌, ℕ, Bool, false, Option, Some, None, List, IfSome, Result, Ok, Err, refl, ◌∙◌, subst}
use Rattle.edge_io.specs.Causes.{RisesExactlyIf}
use Rattle.edge_io.specs.Disk.{Files, Folder}
use Rattle.edge_io.specs.Steps.{Goes}
use Rattle.edge_io.proofs.Going.{goes_then, goes_weaker}
use Rattle.run_shelf.specs.Images.{AtRest}
use Rattle.old_copies.specs.Copying.{folder_in, Either, HasCopies, Places, StepFails, PassesCopies, ReadsCopies, Copies, CopyStep, told_in, folder_failed, site_failed}
use Rattle.old_copies.specs.declared.faults.OldCopyFault.{OldCopyFault}
use Rattle.old_copies.specs.declared.faults.OldCopyFault.TheVariants.{Here, OldHere, StrangeHere, NoStore, NotOld, UnknownFormat, BadCount, OtherFiles, Site, Shelf, NoMemory}
use Rattle.old_copies.proofs.BetweenLemmas.{between_wider, both_between, copies_wider, passes_wider, other_wider, both_copied, other_back, passes_both}

-- ---- what is told

-- what is known where a step ends
pub goes_to : {S : Type 0} (a b : Option S) (R : S → S → Type 0) (P : S → Type 0) → IfSome b P → Goes a b R → Goes a b (λ s t. P t × R s t)
goes_to None None R P here step = tt
goes_to None (Some t) R P here step = absurd step
goes_to (Some s) None R P here step = absurd step
goes_to (Some s) (Some t) R P here step = (here, step)

-- two things that a step does
pub goes_both : {S : Type 0} (a b : Option S) (R Q : S → S → Type 0) → Goes a b R → Goes a b Q → Goes a b (λ s t. R s t × Q s t)
goes_both None None R Q one two = tt
goes_both None (Some t) R Q one two = absurd one
goes_both (Some s) None R Q one two = absurd one
goes_both (Some s) (Some t) R Q one two = (one, two)

pub by_weaker : (from : List ℕ) (w : Option Files) (a b : Option Folder) (R Q : Files → Folder → Folder → Type 0) → IfSome w (λ files. Goes a b (R (folder_in from files))) → ((old : Files) (s t : Folder) → R old s t → Q old s t) → IfSome w (λ files. Goes a b (Q (folder_in from files)))
by_weaker from None a b R Q step weaker = tt
by_weaker from (Some files) a b R Q step weaker = goes_weaker a b (R (folder_in from files)) (Q (folder_in from files)) step (weaker (folder_in from files))

module _ (from : List ℕ) (w v : Option Files) (a b c : Option Folder) (same : v ≡ w) (rest : IfSome b AtRest) (R S Q : Files → Folder → Folder → Type 0) where
  pub by_then : IfSome w (λ files. Goes a b (R (folder_in from files))) → IfSome v (λ files. Goes b c (S (folder_in from files))) → ((old : Files) (s m t : Folder) → AtRest m → R old s m → S old m t → Q old s t) → IfSome w (λ files. Goes a c (Q (folder_in from files)))
  by_then first second join = both w first (subst (λ (o : Option Files). IfSome o (λ files. Goes b c (S (folder_in from files)))) same second)
    where
      both : (o : Option Files) → IfSome o (λ files. Goes a b (R (folder_in from files))) → IfSome o (λ files. Goes b c (S (folder_in from files))) → IfSome o (λ files. Goes a c (Q (folder_in from files)))
      both None one two = tt
      both (Some files) one two =
          let old : Files = folder_in from files in
          goes_then a b c (λ s m. AtRest m × R old s m) (S old) (Q old) (goes_to a b (R old) AtRest rest one) two (λ s m t p q. join old s m t p.0 p.1 q)

-- ---- counts

pub counts_then : (a b c : ℕ) (failed : Bool) → RisesExactlyIf a b false → RisesExactlyIf b c failed → RisesExactlyIf a c failed
counts_then a b c failed first second = subst (λ (n : ℕ). RisesExactlyIf n c failed) (first.stands refl) second

-- ---- faults

pub fails_wider : (A B : List ℕ → Type 0) (old files : Files) → ((name : List ℕ) → A name → B name) → (fault : OldCopyFault) → StepFails A old files fault → StepFails B old files fault
fails_wider A B old files wider OtherFiles fails = other_wider A B old files wider fails
fails_wider A B old files wider Site fails = tt
fails_wider A B old files wider (Shelf call) fails = tt
fails_wider A B old files wider NoMemory fails = tt
fails_wider A B old files wider Here fails = absurd fails
fails_wider A B old files wider OldHere fails = absurd fails
fails_wider A B old files wider StrangeHere fails = absurd fails
fails_wider A B old files wider NoStore fails = absurd fails
fails_wider A B old files wider NotOld fails = absurd fails
fails_wider A B old files wider UnknownFormat fails = absurd fails
fails_wider A B old files wider BadCount fails = absurd fails

pub fails_back : (A B : List ℕ → Type 0) (old files now : Files) → HasCopies A old files now → (fault : OldCopyFault) → StepFails B old now fault → StepFails (Either A B) old files fault
fails_back A B old files now has OtherFiles fails = other_back A B old files now has fails
fails_back A B old files now has Site fails = tt
fails_back A B old files now has (Shelf call) fails = tt
fails_back A B old files now has NoMemory fails = tt
fails_back A B old files now has Here fails = absurd fails
fails_back A B old files now has OldHere fails = absurd fails
fails_back A B old files now has StrangeHere fails = absurd fails
fails_back A B old files now has NoStore fails = absurd fails
fails_back A B old files now has NotOld fails = absurd fails
fails_back A B old files now has UnknownFormat fails = absurd fails
fails_back A B old files now has BadCount fails = absurd fails

-- ---- steps

module _ (A B : List ℕ → Type 0) (from : List ℕ) (x y : Places) (wider : (name : List ℕ) → A name → B name) where
  abbrev there : Option Files
  there = told_in from x.site.told

  reads_more : Goes x.folder.told y.folder.told (ReadsCopies A there) → Goes x.folder.told y.folder.told (ReadsCopies B there)
  reads_more reads = goes_weaker x.folder.told y.folder.told (ReadsCopies A there) (ReadsCopies B there) reads (λ s t. between_wider A B there s.disk.published t.disk.published wider)

  moments_more : Goes x.folder.told y.folder.told (PassesCopies A there) → Goes x.folder.told y.folder.told (PassesCopies B there)
  moments_more passes = goes_weaker x.folder.told y.folder.told (PassesCopies A there) (PassesCopies B there) passes (passes_wider A B there wider)

-- a step that failed, among more names
pub failed_wider : {T U : Type 0} (A B : List ℕ → Type 0) (from : List ℕ) (x y : Places) (fault : OldCopyFault) → ((name : List ℕ) → A name → B name) → CopyStep {T = T} A from x y (Err fault) → CopyStep {T = U} B from x y (Err fault)
failed_wider {T = T} {U = U} A B from x y fault wider step = record {
  same = step.same;
  rest = tt;
  copied = tt;
  refused = by_weaker from x.site.told x.folder.told y.folder.told (λ old s t. StepFails A old s.disk.published fault) (λ old s t. StepFails B old s.disk.published fault) step.refused (λ old s t. fails_wider A B old s.disk.published wider fault);
  reads = reads_more A B from x y wider step.reads;
  any_moment = moments_more A B from x y wider step.any_moment;
  folder = subst (RisesExactlyIf x.folder.faults y.folder.faults) (same_folder fault) step.folder;
  site = subst (RisesExactlyIf x.site.faults y.site.faults) (same_site fault) step.site;
}
  where
    same_folder : (f : OldCopyFault) → folder_failed {T = T} (Err f) ≡ folder_failed {T = U} (Err f)
    same_folder (Shelf call) = refl
    same_folder OtherFiles = refl
    same_folder Site = refl
    same_folder NoMemory = refl
    same_folder Here = refl
    same_folder OldHere = refl
    same_folder StrangeHere = refl
    same_folder NoStore = refl
    same_folder NotOld = refl
    same_folder UnknownFormat = refl
    same_folder BadCount = refl

    same_site : (f : OldCopyFault) → site_failed {T = T} (Err f) ≡ site_failed {T = U} (Err f)
    same_site (Shelf call) = refl
    same_site OtherFiles = refl
    same_site Site = refl
    same_site NoMemory = refl
    same_site Here = refl
    same_site OldHere = refl
    same_site StrangeHere = refl
    same_site NoStore = refl
    same_site NotOld = refl
    same_site UnknownFormat = refl
    same_site BadCount = refl

-- a step that was done, of the same names
pub done_same : {T U : Type 0} (A B : List ℕ → Type 0) (from : List ℕ) (x y : Places) (value : T) (other : U) → ((name : List ℕ) → A name → B name) → ((name : List ℕ) → B name → A name) → CopyStep A from x y (Ok value) → CopyStep B from x y (Ok other)
done_same A B from x y value other wider back step = record {
  same = step.same;
  rest = step.rest;
  copied = by_weaker from x.site.told x.folder.told y.folder.told (Copies A) (Copies B) step.copied (λ old s t. copies_wider A B old s t wider back);
  refused = tt;
  reads = reads_more A B from x y wider step.reads;
  any_moment = moments_more A B from x y wider step.any_moment;
  folder = step.folder;
  site = step.site;
}

-- one step behind another that was done
module _ {T : Type 0} (A B : List ℕ → Type 0) (from : List ℕ) (x y z : Places) (value : T) (first : CopyStep A from x y (Ok value)) where
  abbrev first_told : Option Files
  first_told = told_in from x.site.told

  -- the same is told of the other folder behind it
  second_there : (R : Option Files → Folder → Folder → Type 0) → Goes y.folder.told z.folder.told (R (told_in from y.site.told)) → Goes y.folder.told z.folder.told (R first_told)
  second_there R step = subst (λ (w : Option Files). Goes y.folder.told z.folder.told (R (told_in from w))) first.same step

  reads_then : {U : Type 0} (result : Result U OldCopyFault) → CopyStep B from y z result → Goes x.folder.told z.folder.told (ReadsCopies (Either A B) first_told)
  reads_then result second =
      goes_then x.folder.told y.folder.told z.folder.told (ReadsCopies A first_told) (ReadsCopies B first_told) (ReadsCopies (Either A B) first_told) first.reads (second_there (ReadsCopies B) second.reads)
      (λ s m t p q. both_between A B first_told s.disk.published m.disk.published t.disk.published p q)

  moments : {U : Type 0} (result : Result U OldCopyFault) → CopyStep B from y z result → Goes x.folder.told z.folder.told (PassesCopies (Either A B) first_told)
  moments result second =
      goes_then x.folder.told y.folder.told z.folder.told (λ s m. AtRest m × (ReadsCopies A first_told s m × PassesCopies A first_told s m)) (PassesCopies B first_told) (PassesCopies (Either A B) first_told)
      (goes_to x.folder.told y.folder.told (λ s m. ReadsCopies A first_told s m × PassesCopies A first_told s m) AtRest first.rest (goes_both x.folder.told y.folder.told (ReadsCopies A first_told) (PassesCopies A first_told) first.reads first.any_moment))
      (second_there (PassesCopies B) second.any_moment)
      (λ s m t p q. passes_both A B first_told s m p.0 p.1.0 t p.1.1 q)

  pub step_then : {U : Type 0} (result : Result U OldCopyFault) → CopyStep B from y z result → CopyStep (Either A B) from x z result
  step_then (Ok done) second = record {
    same = second.same ∙ first.same;
    rest = second.rest;
    copied = by_then from x.site.told y.site.told x.folder.told y.folder.told z.folder.told first.same first.rest (Copies A) (Copies B) (Copies (Either A B)) first.copied second.copied (λ old s m t rest p q. both_copied A B old s m t p q);
    refused = tt;
    reads = reads_then (Ok done) second;
    any_moment = moments (Ok done) second;
    folder = counts_then x.folder.faults y.folder.faults z.folder.faults false first.folder second.folder;
    site = counts_then x.site.faults y.site.faults z.site.faults false first.site second.site;
  }
  step_then (Err fault) second = record {
    same = second.same ∙ first.same;
    rest = tt;
    copied = tt;
    refused = by_then from x.site.told y.site.told x.folder.told y.folder.told z.folder.told first.same first.rest (Copies A) (λ old s t. StepFails B old s.disk.published fault) (λ old s t. StepFails (Either A B) old s.disk.published fault) first.copied second.refused (λ old s m t rest p q. fails_back A B old s.disk.published m.disk.published p.has fault q);
    reads = reads_then (Err fault) second;
    any_moment = moments (Err fault) second;
    folder = counts_then x.folder.faults y.folder.faults z.folder.faults _ first.folder second.folder;
    site = counts_then x.site.faults y.site.faults z.site.faults _ first.site second.site;
  }

-- Where the cause of a named refusal of a copy is there, it comes.
use Rattle.std.proofs.Common.{◌≡◌, ◌⊎◌, inl, inr, ℕ, Option, None, Some, IfSome, IsSomeAnd, Result, Ok, Err, List, refl, sym, subst, ◌∙◌}
use Rattle.std.specs.Prelude.{⊤}
use Rattle.edge_io.specs.Disk.{Files, Folder}
use Rattle.edge_io.specs.Steps.{Goes}
use Rattle.run_shelf.specs.Adoption.{IsOld}
use Rattle.run_shelf.specs.Repository.{format_name, HasFormat}
use Rattle.old_folder.specs.Looking.{HasStrangeFormat, LacksCount}
use Rattle.old_copies.specs.Copying.{folder_in, Places, GoesBy, IsCopiedFirst, IsOldFolder, HasOtherFiles, TakesFiles, CopyFails, CopiesOld}
use Rattle.old_copies.specs.Exact.{AreTold, IsFreeFor, CopyEnds}
use Rattle.old_copies.specs.declared.faults.OldCopyFault.{OldCopyFault}
use Rattle.old_copies.specs.declared.faults.OldCopyFault.TheVariants as fault
use Rattle.old_copies.proofs.FormatLemmas.{no_format, no_old, no_other, two_formats, not_both}

-- ---- causes exclude each other, and what is copied excludes them

-- the other folder lacks a count, and has one
no_count : (old : Files) (count : ℕ) → LacksCount old → IsOldFolder count old → ⊥
no_count old count lacks is_old =
    let both : None ≡ Some count = sym lacks.none ∙ is_old.next in
    cc

same_count : (old : Files) (one other : ℕ) → IsOldFolder one old → IsOldFolder other old → one ≡ other
same_count old one other a b =
    let both : Some one ≡ Some other = sym a.next ∙ b.next in
    cc

-- where files were copied, no other ones stood here
not_other : (old : Files) (s t : Folder) → HasOtherFiles old s.disk.published → TakesFiles old s t → ⊥
not_other old s t found takes =
    let first : IsCopiedFirst takes.count found.name = takes.alone found.name found.short found.there in
    let same : takes.count ≡ found.count = same_count old takes.count found.count takes.is_old found.is_old in
    found.other (subst (λ (n : ℕ). IsCopiedFirst n found.name) same first) (takes.copied.stood found.name (inl first) found.there)

-- ---- why each answer comes

-- why this answer came
abbrev Why : Result (Unit {0}) OldCopyFault → Files → Folder → Folder → Type 0
Why (Ok value) = TakesFiles
Why (Err bad) = λ old. CopyFails old bad

-- it tells no cause in the folders
abbrev Ends : Result (Unit {0}) OldCopyFault → Type 0
Ends (Err fault.Site) = ⊤
Ends (Err (fault.Shelf call)) = ⊤
Ends (Err fault.NoMemory) = ⊤
Ends result = ⊥

here_of : (old : Files) (s t : Folder) (result : Result (Unit {0}) OldCopyFault) → HasFormat s.disk.published → Why result old s t → (result ≡ Err fault.Here) ⊎ Ends result
here_of old s t (Ok value) cause why = absurd (no_format s.disk.published why.free cause)
here_of old s t (Err fault.Here) cause why = inl refl
here_of old s t (Err fault.OldHere) cause why = absurd (not_both s.disk.published why.0 cause)
here_of old s t (Err fault.StrangeHere) cause why = absurd (two_formats s.disk.published why.0.other cause)
here_of old s t (Err fault.NoStore) cause why = absurd (no_format s.disk.published why.0 cause)
here_of old s t (Err fault.NotOld) cause why = absurd (no_format s.disk.published why.0 cause)
here_of old s t (Err fault.UnknownFormat) cause why = absurd (no_format s.disk.published why.0 cause)
here_of old s t (Err fault.BadCount) cause why = absurd (no_format s.disk.published why.0 cause)
here_of old s t (Err fault.OtherFiles) cause why = absurd (no_format s.disk.published why.0 cause)
here_of old s t (Err fault.Site) cause why = inr tt
here_of old s t (Err (fault.Shelf call)) cause why = inr tt
here_of old s t (Err fault.NoMemory) cause why = inr tt

old_here_of : (old : Files) (s t : Folder) (result : Result (Unit {0}) OldCopyFault) → IsOld s.disk.published → Why result old s t → (result ≡ Err fault.OldHere) ⊎ Ends result
old_here_of old s t (Ok value) cause why = absurd (no_old s.disk.published why.free cause)
old_here_of old s t (Err fault.Here) cause why = absurd (not_both s.disk.published cause why.0)
old_here_of old s t (Err fault.OldHere) cause why = inl refl
old_here_of old s t (Err fault.StrangeHere) cause why = absurd (why.0.not_old cause)
old_here_of old s t (Err fault.NoStore) cause why = absurd (no_old s.disk.published why.0 cause)
old_here_of old s t (Err fault.NotOld) cause why = absurd (no_old s.disk.published why.0 cause)
old_here_of old s t (Err fault.UnknownFormat) cause why = absurd (no_old s.disk.published why.0 cause)
old_here_of old s t (Err fault.BadCount) cause why = absurd (no_old s.disk.published why.0 cause)
old_here_of old s t (Err fault.OtherFiles) cause why = absurd (no_old s.disk.published why.0 cause)
old_here_of old s t (Err fault.Site) cause why = inr tt
old_here_of old s t (Err (fault.Shelf call)) cause why = inr tt
old_here_of old s t (Err fault.NoMemory) cause why = inr tt

strange_here_of : (old : Files) (s t : Folder) (result : Result (Unit {0}) OldCopyFault) → HasStrangeFormat s.disk.published → Why result old s t → (result ≡ Err fault.StrangeHere) ⊎ Ends result
strange_here_of old s t (Ok value) cause why = absurd (no_other s.disk.published why.free cause.other)
strange_here_of old s t (Err fault.Here) cause why = absurd (two_formats s.disk.published cause.other why.0)
strange_here_of old s t (Err fault.OldHere) cause why = absurd (cause.not_old why.0)
strange_here_of old s t (Err fault.StrangeHere) cause why = inl refl
strange_here_of old s t (Err fault.NoStore) cause why = absurd (no_other s.disk.published why.0 cause.other)
strange_here_of old s t (Err fault.NotOld) cause why = absurd (no_other s.disk.published why.0 cause.other)
strange_here_of old s t (Err fault.UnknownFormat) cause why = absurd (no_other s.disk.published why.0 cause.other)
strange_here_of old s t (Err fault.BadCount) cause why = absurd (no_other s.disk.published why.0 cause.other)
strange_here_of old s t (Err fault.OtherFiles) cause why = absurd (no_other s.disk.published why.0 cause.other)
strange_here_of old s t (Err fault.Site) cause why = inr tt
strange_here_of old s t (Err (fault.Shelf call)) cause why = inr tt
strange_here_of old s t (Err fault.NoMemory) cause why = inr tt

no_store_of : (old : Files) (s t : Folder) (result : Result (Unit {0}) OldCopyFault) → IsFreeFor (λ given. given format_name ≡ None) old s.disk.published → Why result old s t → (result ≡ Err fault.NoStore) ⊎ Ends result
no_store_of old s t (Ok value) cause why = absurd (no_old old cause.1 why.is_old.is)
no_store_of old s t (Err fault.Here) cause why = absurd (no_format s.disk.published cause.0 why.0)
no_store_of old s t (Err fault.OldHere) cause why = absurd (no_old s.disk.published cause.0 why.0)
no_store_of old s t (Err fault.StrangeHere) cause why = absurd (no_other s.disk.published cause.0 why.0.other)
no_store_of old s t (Err fault.NoStore) cause why = inl refl
no_store_of old s t (Err fault.NotOld) cause why = absurd (no_format old cause.1 why.1)
no_store_of old s t (Err fault.UnknownFormat) cause why = absurd (no_other old cause.1 why.1.other)
no_store_of old s t (Err fault.BadCount) cause why = absurd (no_old old cause.1 why.1.old)
no_store_of old s t (Err fault.OtherFiles) cause why = absurd (no_old old cause.1 why.1.is_old.is)
no_store_of old s t (Err fault.Site) cause why = inr tt
no_store_of old s t (Err (fault.Shelf call)) cause why = inr tt
no_store_of old s t (Err fault.NoMemory) cause why = inr tt

not_old_of : (old : Files) (s t : Folder) (result : Result (Unit {0}) OldCopyFault) → IsFreeFor HasFormat old s.disk.published → Why result old s t → (result ≡ Err fault.NotOld) ⊎ Ends result
not_old_of old s t (Ok value) cause why = absurd (not_both old why.is_old.is cause.1)
not_old_of old s t (Err fault.Here) cause why = absurd (no_format s.disk.published cause.0 why.0)
not_old_of old s t (Err fault.OldHere) cause why = absurd (no_old s.disk.published cause.0 why.0)
not_old_of old s t (Err fault.StrangeHere) cause why = absurd (no_other s.disk.published cause.0 why.0.other)
not_old_of old s t (Err fault.NoStore) cause why = absurd (no_format old why.1 cause.1)
not_old_of old s t (Err fault.NotOld) cause why = inl refl
not_old_of old s t (Err fault.UnknownFormat) cause why = absurd (two_formats old why.1.other cause.1)
not_old_of old s t (Err fault.BadCount) cause why = absurd (not_both old why.1.old cause.1)
not_old_of old s t (Err fault.OtherFiles) cause why = absurd (not_both old why.1.is_old.is cause.1)
not_old_of old s t (Err fault.Site) cause why = inr tt
not_old_of old s t (Err (fault.Shelf call)) cause why = inr tt
not_old_of old s t (Err fault.NoMemory) cause why = inr tt

unknown_format_of : (old : Files) (s t : Folder) (result : Result (Unit {0}) OldCopyFault) → IsFreeFor HasStrangeFormat old s.disk.published → Why result old s t → (result ≡ Err fault.UnknownFormat) ⊎ Ends result
unknown_format_of old s t (Ok value) cause why = absurd (cause.1.not_old why.is_old.is)
unknown_format_of old s t (Err fault.Here) cause why = absurd (no_format s.disk.published cause.0 why.0)
unknown_format_of old s t (Err fault.OldHere) cause why = absurd (no_old s.disk.published cause.0 why.0)
unknown_format_of old s t (Err fault.StrangeHere) cause why = absurd (no_other s.disk.published cause.0 why.0.other)
unknown_format_of old s t (Err fault.NoStore) cause why = absurd (no_other old why.1 cause.1.other)
unknown_format_of old s t (Err fault.NotOld) cause why = absurd (two_formats old cause.1.other why.1)
unknown_format_of old s t (Err fault.UnknownFormat) cause why = inl refl
unknown_format_of old s t (Err fault.BadCount) cause why = absurd (cause.1.not_old why.1.old)
unknown_format_of old s t (Err fault.OtherFiles) cause why = absurd (cause.1.not_old why.1.is_old.is)
unknown_format_of old s t (Err fault.Site) cause why = inr tt
unknown_format_of old s t (Err (fault.Shelf call)) cause why = inr tt
unknown_format_of old s t (Err fault.NoMemory) cause why = inr tt

bad_count_of : (old : Files) (s t : Folder) (result : Result (Unit {0}) OldCopyFault) → IsFreeFor LacksCount old s.disk.published → Why result old s t → (result ≡ Err fault.BadCount) ⊎ Ends result
bad_count_of old s t (Ok value) cause why = absurd (no_count old why.count cause.1 why.is_old)
bad_count_of old s t (Err fault.Here) cause why = absurd (no_format s.disk.published cause.0 why.0)
bad_count_of old s t (Err fault.OldHere) cause why = absurd (no_old s.disk.published cause.0 why.0)
bad_count_of old s t (Err fault.StrangeHere) cause why = absurd (no_other s.disk.published cause.0 why.0.other)
bad_count_of old s t (Err fault.NoStore) cause why = absurd (no_old old why.1 cause.1.old)
bad_count_of old s t (Err fault.NotOld) cause why = absurd (not_both old cause.1.old why.1)
bad_count_of old s t (Err fault.UnknownFormat) cause why = absurd (why.1.not_old cause.1.old)
bad_count_of old s t (Err fault.BadCount) cause why = inl refl
bad_count_of old s t (Err fault.OtherFiles) cause why = absurd (no_count old why.1.count cause.1 why.1.is_old)
bad_count_of old s t (Err fault.Site) cause why = inr tt
bad_count_of old s t (Err (fault.Shelf call)) cause why = inr tt
bad_count_of old s t (Err fault.NoMemory) cause why = inr tt

other_files_of : (old : Files) (s t : Folder) (result : Result (Unit {0}) OldCopyFault) → IsFreeFor (λ given. HasOtherFiles given s.disk.published) old s.disk.published → Why result old s t → (result ≡ Err fault.OtherFiles) ⊎ Ends result
other_files_of old s t (Ok value) cause why = absurd (not_other old s t cause.1 why)
other_files_of old s t (Err fault.Here) cause why = absurd (no_format s.disk.published cause.0 why.0)
other_files_of old s t (Err fault.OldHere) cause why = absurd (no_old s.disk.published cause.0 why.0)
other_files_of old s t (Err fault.StrangeHere) cause why = absurd (no_other s.disk.published cause.0 why.0.other)
other_files_of old s t (Err fault.NoStore) cause why = absurd (no_old old why.1 cause.1.is_old.is)
other_files_of old s t (Err fault.NotOld) cause why = absurd (not_both old cause.1.is_old.is why.1)
other_files_of old s t (Err fault.UnknownFormat) cause why = absurd (why.1.not_old cause.1.is_old.is)
other_files_of old s t (Err fault.BadCount) cause why = absurd (no_count old cause.1.count why.1 cause.1.is_old)
other_files_of old s t (Err fault.OtherFiles) cause why = inl refl
other_files_of old s t (Err fault.Site) cause why = inr tt
other_files_of old s t (Err (fault.Shelf call)) cause why = inr tt
other_files_of old s t (Err fault.NoMemory) cause why = inr tt

-- ---- where both folders are told

at_both : (from : List ℕ) (site : Option Files) (a b : Option Folder) (C : Files → Files → Type 0) (R : Files → Folder → Folder → Type 0) (Q : Type 0) → IsSomeAnd site (λ files. IsSomeAnd a (λ s. C (folder_in from files) s.disk.published))
    → IfSome site (λ files. Goes a b (R (folder_in from files))) → ((old : Files) (s t : Folder) → C old s.disk.published → R old s t → Q) → Q
at_both from None a b C R Q holds goes each = absurd holds
at_both from (Some files) None b C R Q holds goes each = absurd holds
at_both from (Some files) (Some s) None C R Q holds goes each = absurd goes
at_both from (Some files) (Some s) (Some t) C R Q holds goes each = each (folder_in from files) s t holds goes

module _ (from : List ℕ) (before after : Places) where
  why_of : (result : Result (Unit {0}) OldCopyFault) → CopiesOld from before after result → GoesBy from before after (Why result)
  why_of (Ok value) step = step.copied
  why_of (Err bad) step = step.refused

  -- what ends without a cause in the folders does so for a fault, or want of memory
  ends_of : (result : Result (Unit {0}) OldCopyFault) → CopiesOld from before after result → Ends result → CopyEnds before after result
  ends_of (Err fault.Site) step ends = inr (inr (step.site.rose refl))
  ends_of (Err (fault.Shelf call)) step ends = inr (inl (step.folder.rose refl))
  ends_of (Err fault.NoMemory) step ends = inl refl
  ends_of (Ok value) step ends = absurd ends
  ends_of (Err fault.Here) step ends = absurd ends
  ends_of (Err fault.OldHere) step ends = absurd ends
  ends_of (Err fault.StrangeHere) step ends = absurd ends
  ends_of (Err fault.NoStore) step ends = absurd ends
  ends_of (Err fault.NotOld) step ends = absurd ends
  ends_of (Err fault.UnknownFormat) step ends = absurd ends
  ends_of (Err fault.BadCount) step ends = absurd ends
  ends_of (Err fault.OtherFiles) step ends = absurd ends

  by_cause : (bad : OldCopyFault) (C : Files → Files → Type 0) (result : Result (Unit {0}) OldCopyFault) → CopiesOld from before after result → AreTold from before C → ((old : Files) (s t : Folder) → C old s.disk.published → Why result old s t → (result ≡ Err bad) ⊎ Ends result) → (result ≡ Err bad) ⊎ CopyEnds before after result
  by_cause bad C result step holds each =
      elim (at_both from before.site.told before.folder.told after.folder.told C (Why result) ((result ≡ Err bad) ⊎ Ends result) holds (why_of result step) each) [
        | inl is ↦ inl is
        | inr ends ↦ inr (ends_of result step ends)
      ]

module _ (from : List ℕ) (before after : Places) (result : Result (Unit {0}) OldCopyFault) (step : CopiesOld from before after result) where
  pub here : AreTold from before (λ old files. HasFormat files) → (result ≡ Err fault.Here) ⊎ CopyEnds before after result
  here holds = by_cause from before after fault.Here (λ old files. HasFormat files) result step holds (λ old s t. here_of old s t result)

  pub old_here : AreTold from before (λ old files. IsOld files) → (result ≡ Err fault.OldHere) ⊎ CopyEnds before after result
  old_here holds = by_cause from before after fault.OldHere (λ old files. IsOld files) result step holds (λ old s t. old_here_of old s t result)

  pub strange_here : AreTold from before (λ old files. HasStrangeFormat files) → (result ≡ Err fault.StrangeHere) ⊎ CopyEnds before after result
  strange_here holds = by_cause from before after fault.StrangeHere (λ old files. HasStrangeFormat files) result step holds (λ old s t. strange_here_of old s t result)

  pub no_store : AreTold from before (IsFreeFor (λ old. old format_name ≡ None)) → (result ≡ Err fault.NoStore) ⊎ CopyEnds before after result
  no_store holds = by_cause from before after fault.NoStore (IsFreeFor (λ old. old format_name ≡ None)) result step holds (λ old s t. no_store_of old s t result)

  pub not_old : AreTold from before (IsFreeFor HasFormat) → (result ≡ Err fault.NotOld) ⊎ CopyEnds before after result
  not_old holds = by_cause from before after fault.NotOld (IsFreeFor HasFormat) result step holds (λ old s t. not_old_of old s t result)

  pub unknown_format : AreTold from before (IsFreeFor HasStrangeFormat) → (result ≡ Err fault.UnknownFormat) ⊎ CopyEnds before after result
  unknown_format holds = by_cause from before after fault.UnknownFormat (IsFreeFor HasStrangeFormat) result step holds (λ old s t. unknown_format_of old s t result)

  pub bad_count : AreTold from before (IsFreeFor LacksCount) → (result ≡ Err fault.BadCount) ⊎ CopyEnds before after result
  bad_count holds = by_cause from before after fault.BadCount (IsFreeFor LacksCount) result step holds (λ old s t. bad_count_of old s t result)

  pub other_files : AreTold from before (λ old files. IsFreeFor (λ given. HasOtherFiles given files) old files) → (result ≡ Err fault.OtherFiles) ⊎ CopyEnds before after result
  other_files holds = by_cause from before after fault.OtherFiles (λ old files. IsFreeFor (λ given. HasOtherFiles given files) old files) result step holds (λ old s t. other_files_of old s t result)

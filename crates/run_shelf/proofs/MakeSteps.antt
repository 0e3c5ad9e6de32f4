-- The steps of making a repository.
use Rattle.std.proofs.Common.{◌≡◌, ◌⊎◌, IfSome, inl, inr, ℕ, List, length, false, Option, Some, None, is_some, refl, sym, ap, ◌∙◌, subst}
use Rattle.std.specs.Option.{option_map}
use Rattle.std.proofs.lemmas.Bool.{both_ways}
use Rattle.edge_io.specs.Disk.{Files, put, Disk, Folder, IsImage, at_rest}
use Rattle.edge_io.specs.Steps.{Goes, Settled, FindsLength}
use Rattle.edge_io.proofs.Going.{goes_then, goes_from}
use Rattle.edge_io.proofs.Passing.{passes_weaker}
use Rattle.run_shelf.specs.declared.faults.ShelfCall.{ShelfCall}
use Rattle.run_shelf.specs.declared.faults.ShelfCall.TheVariants.{Names, Length, ReadAt, StartDraft, Append, SyncDraft, Publish, SyncFolder}
use Rattle.run_shelf.specs.declared.faults.InitFault.TheVariants.{Shelf}
use Rattle.run_shelf.specs.Images.{MakesRepository, KeepsFile, ReadsFile, HasFormatBeside, PassesFile, PassesFormat}
use Rattle.run_shelf.specs.Outcomes.{KeepFails, InitFails, StillLacksFormat, ReadsFormat}
use Rattle.run_shelf.specs.Repository.{format_name, format_bytes}
use Rattle.run_shelf.proofs.Joining.{rest_images, goes_with}

none_from : (file : Option (List ℕ)) (found : Option ℕ) → found ≡ option_map length file → is_some found ≡ false → file ≡ None
none_from None found is none = refl
none_from (Some bytes) found is none = absurd (both_ways (is_some found) none (ap is_some is))

module _ (s m : Folder) (settled : Settled s m) where
  before : m.disk.published ≡ s.disk.published
  before = ap (λ (f : Folder). f.disk.published) settled

  disk : m.disk ≡ at_rest s.disk.published
  disk = ap (λ (f : Folder). f.disk) settled

  absent_before : m.disk.published format_name ≡ None → s.disk.published format_name ≡ None
  absent_before none = sym (ap (λ (f : Files). f format_name) before) ∙ none

  makes : (t : Folder) → m.disk.published format_name ≡ None → KeepsFile format_name format_bytes m t → MakesRepository s t
  makes t none kept =
      let same : t.disk ≡ at_rest (put s.disk.published format_name format_bytes) = kept ∙ ap (λ (f : Files). at_rest (put f format_name format_bytes)) before in
      record {
        absent = absent_before none;
        disk = same;
        lasts = λ image left. record { absent = absent_before none; is = rest_images (put s.disk.published format_name format_bytes) image (subst (λ (d : Disk). IsImage d image) same left) };
      }

  still_lacks : (t : Folder) → m.disk.published format_name ≡ None → t.disk ≡ m.disk → StillLacksFormat s t
  still_lacks t none is = record { absent = absent_before none; disk = is ∙ disk }

  reads : (t : Folder) → m.disk.published format_name ≡ None → ReadsFile format_name format_bytes m t → ReadsFormat s t
  reads t none is = record { absent = absent_before none; reads = is ∙ ap (λ (f : Files). put f format_name format_bytes) before }

  fails : (call : ShelfCall) (t : Folder) → m.disk.published format_name ≡ None → KeepFails format_name format_bytes call m t → InitFails (Shelf call) s t
  fails Names t none is = absurd is
  fails Length t none is = absurd is
  fails ReadAt t none is = absurd is
  fails StartDraft t none is = still_lacks t none is
  fails Append t none is = still_lacks t none is
  fails SyncDraft t none is = still_lacks t none is
  fails Publish t none (inl is) = inl (still_lacks t none is)
  fails Publish t none (inr is) = inr (reads t none is)
  fails SyncFolder t none is = inr (reads t none is)

module _ (a b c : Option Folder) (settled : Goes a b Settled) (found : Option ℕ) (finds : FindsLength b format_name found) (absent : is_some found ≡ false) where
  pub goes_makes : Goes b c (KeepsFile format_name format_bytes) → Goes a c MakesRepository
  goes_makes kept =
      goes_then a b c Settled (λ m t. (found ≡ option_map length (m.disk.published format_name)) × KeepsFile format_name format_bytes m t) MakesRepository settled
      (goes_with b c (λ m. found ≡ option_map length (m.disk.published format_name)) (KeepsFile format_name format_bytes) finds kept)
      (λ s m t is both. makes s m is t (none_from (m.disk.published format_name) found both.0 absent) both.1)

  pub goes_fails : (call : ShelfCall) → Goes b c (KeepFails format_name format_bytes call) → Goes a c (InitFails (Shelf call))
  goes_fails call failed =
      goes_then a b c Settled (λ m t. (found ≡ option_map length (m.disk.published format_name)) × KeepFails format_name format_bytes call m t) (InitFails (Shelf call)) settled
      (goes_with b c (λ m. found ≡ option_map length (m.disk.published format_name)) (KeepFails format_name format_bytes call) finds failed)
      (λ s m t is both. fails s m is call t (none_from (m.disk.published format_name) found both.0 absent) both.1)

  absent_at : (a b : Option Folder) → Goes a b Settled → FindsLength b format_name found → IfSome a (λ s. s.disk.published format_name ≡ None)
  absent_at None b step here = tt
  absent_at (Some s) None step here = absurd step
  absent_at (Some s) (Some m) step here = absent_before s m step (none_from (m.disk.published format_name) found here absent)

  beside_by : (s t : Folder) → s.disk.published format_name ≡ None → PassesFile format_name format_bytes s t → PassesFormat s t
  beside_by s t none passes = passes_weaker
      (λ image. IsImage s.disk image ⊎ (image ≡ put s.disk.published format_name format_bytes))
      (λ image. IsImage s.disk image ⊎ HasFormatBeside s.disk.published image)
      (λ image left. map_right left) s t passes
    where
      map_right : {image : Files} → IsImage s.disk image ⊎ (image ≡ put s.disk.published format_name format_bytes) → IsImage s.disk image ⊎ HasFormatBeside s.disk.published image
      map_right (inl left) = inl left
      map_right (inr is) = inr (record { absent = none; is = is })

  -- where the file was not there, the file beside the others is the new one
  pub goes_beside_none : Goes a c (PassesFile format_name format_bytes) → Goes a c PassesFormat
  goes_beside_none passes = goes_from a c (λ s. s.disk.published format_name ≡ None) (PassesFile format_name format_bytes) PassesFormat (absent_at a b settled finds) passes beside_by

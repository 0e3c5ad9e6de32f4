-- What a stop leaves in each step of keeping a file, and what is there where a step fails.
use Rattle.std.proofs.Common.{◌≡◌, ◌⊎◌, inl, inr, ℕ, List, length, Option, Some, None, IfSome, IsSome, refl, sym, ap, ◌∙◌, subst, eq-eqb}
use Rattle.edge_io.specs.Disk.{Files, put, put_same, Disk, Draft, Folder, IsImage, at_rest}
use Rattle.edge_io.specs.Steps.{Goes, HasDraft, Dropped, Placed, PlacedOrNot, Settled, Stays, placed, moved}
use Rattle.edge_io.proofs.Going.{goes_then, goes_from, goes_weaker}
use Rattle.edge_io.proofs.Passing.{passes_same, passes_one, passes_then}
use Rattle.run_shelf.specs.declared.faults.ShelfCall.{ShelfCall}
use Rattle.run_shelf.specs.declared.faults.ShelfCall.TheVariants.{Names, Length, ReadAt, StartDraft, Append, SyncDraft, Publish, SyncFolder}
use Rattle.run_shelf.specs.Drafts.{whole_draft, OfDraft, Writes, Drafts, PlaceFails}
use Rattle.run_shelf.specs.Images.{AtRest, KeepsFile, ReadsFile, SameDisk, PassesFile}
use Rattle.run_shelf.specs.Outcomes.{KeepFails}
use Rattle.run_shelf.proofs.DraftLemmas.{of_draft, goes_after_writing}
use Rattle.run_shelf.proofs.Joining.{rest_images}

some_same : (a b : List ℕ) → Some a ≡ Some b → a ≡ b
some_same a b e = cc

placed_images : (disk : Disk) (name bytes : List ℕ) → disk.stable ≡ disk.published → (image : Files) → IsImage (placed name disk (Some (whole_draft bytes))) image → IsImage disk image ⊎ (image ≡ put disk.published name bytes)
placed_images disk name bytes same image (inl old) = inl (inl old)
placed_images disk name bytes same image (inr new) =
    let exact : new.0 ≡ bytes = some_same _ _ (sym (new.2 (eq-eqb (length bytes) (length bytes) refl)) ∙ put_same disk.published name bytes) in
    inr (new.1 ∙ (λ i. put (same i) name (exact i)))

module _ (name bytes : List ℕ) (s m : Folder) (rest : AtRest s) (draft : Drafts bytes s m) where
  abbrev P : Files → Type 0
  P = λ image. IsImage s.disk image ⊎ (image ≡ put s.disk.published name bytes)

  stable : s.disk.stable ≡ s.disk.published
  stable = ap (λ (d : Disk). d.stable) rest

  -- the disk after the publish
  abbrev next : Disk
  next = placed name s.disk (Some (whole_draft bytes))

  placed_from : (t : Folder) → Placed name m t → t ≡ moved s next None
  placed_from t is = is ∙ ap (λ (f : Folder). moved f (placed name f.disk f.draft) None) draft

  through_placed : (t : Folder) → Placed name m t → PassesFile name bytes s t
  through_placed t is = passes_one P s t next None (placed_from t is) (placed_images s.disk name bytes stable)

  through_publish : (t : Folder) → PlacedOrNot name m t → PassesFile name bytes s t
  through_publish t (inl is) = through_placed t is
  through_publish t (inr none) =
      let same : t ≡ record s { draft = None } = none ∙ ap (λ (f : Folder). record f { draft = None }) draft in
      passes_same P s t (ap (λ (f : Folder). f.disk) same) (ap (λ (f : Folder). f.past) same)

  through_all : (t u : Folder) → Placed name m t → Settled t u ⊎ Stays t u → PassesFile name bytes s u
  through_all t u is (inl settled) =
      let published : t.disk.published ≡ put s.disk.published name bytes = ap (λ (f : Folder). f.disk.published) (placed_from t is) in
      passes_then P s t u (through_placed t is)
      (passes_one P t u (at_rest t.disk.published) t.draft settled (λ image left. inr (rest_images t.disk.published image left ∙ published)))
  through_all t u is (inr same) =
      passes_then P s t u (through_placed t is)
      (passes_same P t u (ap (λ (f : Folder). f.disk) same) (ap (λ (f : Folder). f.past) same))

-- what was kept, or not
module _ (name bytes : List ℕ) (s m : Folder) (draft : Drafts bytes s m) where
  keeps_placed : (t u : Folder) → Placed name m t → Settled t u → KeepsFile name bytes s u
  keeps_placed t u is settled =
      let published : t.disk.published ≡ put s.disk.published name bytes = ap (λ (f : Folder). f.disk.published) (is ∙ ap (λ (f : Folder). moved f (placed name f.disk f.draft) None) draft) in
      ap (λ (f : Folder). f.disk) settled ∙ ap at_rest published

  reads_placed : (t : Folder) → Placed name m t → ReadsFile name bytes s t
  reads_placed t is = ap (λ (f : Folder). f.disk.published) (is ∙ ap (λ (f : Folder). moved f (placed name f.disk f.draft) None) draft)

  fails_to_publish : (t : Folder) → PlacedOrNot name m t → SameDisk s t ⊎ ReadsFile name bytes s t
  fails_to_publish t (inl is) = inr (reads_placed t is)
  fails_to_publish t (inr none) = inl (ap (λ (f : Folder). f.disk) (none ∙ ap (λ (f : Folder). record f { draft = None }) draft))

-- the same where the folder is told or not
module _ (name : List ℕ) (a b c : Option Folder) (rest : IfSome a AtRest) (draft : Goes a b (OfDraft Drafts)) where
  pub publish_passes : Goes b c (PlacedOrNot name) → Goes a c (OfDraft (PassesFile name))
  publish_passes step =
      let Went : Folder → Folder → Type 0 = λ s t. (m : Folder) × OfDraft Drafts s m × PlacedOrNot name m t in
      goes_from a c AtRest Went (OfDraft (PassesFile name)) rest (goes_then a b c (OfDraft Drafts) (PlacedOrNot name) Went draft step (λ s m t p q. (m, p, q)))
      (λ s t at w. record { bytes = w.1.bytes; are = w.1.are; does = through_publish name w.1.bytes s w.0 at w.1.does t w.2 })

  pub publish_fails : Goes b c (PlacedOrNot name) → Goes a c (OfDraft (λ bytes. PlaceFails name bytes Publish))
  publish_fails step = goes_then a b c (OfDraft Drafts) (PlacedOrNot name) (OfDraft (λ bytes. PlaceFails name bytes Publish)) draft step
      (λ s m t p q. record { bytes = p.bytes; are = p.are; does = fails_to_publish name p.bytes s m p.does t q })

  module _ (d : Option Folder) (step : Goes b c (Placed name)) where
    pub placed_passes : Goes c d (λ t u. Settled t u ⊎ Stays t u) → Goes a d (OfDraft (PassesFile name))
    placed_passes last =
        let Went : Folder → Folder → Type 0 = λ s t. (m : Folder) × OfDraft Drafts s m × Placed name m t in
        let Ends : Folder → Folder → Type 0 = λ s u. (t : Folder) × Went s t × (Settled t u ⊎ Stays t u) in
        let went = goes_then a b c (OfDraft Drafts) (Placed name) Went draft step (λ s m t p q. (m, p, q)) in
        goes_from a d AtRest Ends (OfDraft (PassesFile name)) rest (goes_then a c d Went (λ t u. Settled t u ⊎ Stays t u) Ends went last (λ s t u p q. (t, p, q)))
        (λ s u at w. record { bytes = w.1.1.bytes; are = w.1.1.are; does = through_all name w.1.1.bytes s w.1.0 at w.1.1.does w.0 u w.1.2 w.2 })

    pub placed_keeps : Goes c d Settled → Goes a d (OfDraft (KeepsFile name))
    placed_keeps last =
        let Went : Folder → Folder → Type 0 = λ s t. (m : Folder) × OfDraft Drafts s m × Placed name m t in
        goes_then a c d Went Settled (OfDraft (KeepsFile name)) (goes_then a b c (OfDraft Drafts) (Placed name) Went draft step (λ s m t p q. (m, p, q))) last
        (λ s t u w q. record { bytes = w.1.bytes; are = w.1.are; does = keeps_placed name w.1.bytes s w.0 w.1.does t u w.2 q })

    pub settle_fails : Goes c d Stays → Goes a d (OfDraft (λ bytes. PlaceFails name bytes SyncFolder))
    settle_fails last =
        let Went : Folder → Folder → Type 0 = λ s t. (m : Folder) × OfDraft Drafts s m × Placed name m t in
        goes_then a c d Went Stays (OfDraft (λ bytes. PlaceFails name bytes SyncFolder)) (goes_then a b c (OfDraft Drafts) (Placed name) Went draft step (λ s m t p q. (m, p, q))) last
        (λ s t u w q. record { bytes = w.1.bytes; are = w.1.are; does = subst (λ (f : Folder). ReadsFile name w.1.bytes s f) (sym q) (reads_placed name w.1.bytes s w.0 w.1.does t w.2) })

-- a draft that could not be synced is gone
module _ (name : List ℕ) (a b : Option Folder) (has : HasDraft a) (step : Goes a b Dropped) where
  pub sync_fails : Goes a b (OfDraft (λ bytes. PlaceFails name bytes SyncDraft))
  sync_fails = goes_from a b (λ s. IsSome s.draft) Dropped (OfDraft (λ bytes. PlaceFails name bytes SyncDraft)) has step
      (λ s t some is. of_draft (λ bytes. PlaceFails name bytes SyncDraft) s t some (λ bytes. ap (λ (f : Folder). f.disk) is))

  pub sync_passes : Goes a b (OfDraft (PassesFile name))
  sync_passes = goes_from a b (λ s. IsSome s.draft) Dropped (OfDraft (PassesFile name)) has step
      (λ s t some is. of_draft (PassesFile name) s t some (λ bytes. passes_same (λ image. IsImage s.disk image ⊎ (image ≡ put s.disk.published name bytes)) s t (ap (λ (f : Folder). f.disk) is) (ap (λ (f : Folder). f.past) is)))

-- a draft that was written and placed
module _ (name bytes : List ℕ) (a b c : Option Folder) (written : Goes a b (Writes bytes)) where
  pub file_kept : Goes b c (OfDraft (KeepsFile name)) → Goes a c (KeepsFile name bytes)
  file_kept kept = goes_after_writing (KeepsFile name) (λ given s t draft does. does) bytes a b c written kept

  pub file_passes : Goes b c (OfDraft (PassesFile name)) → Goes a c (PassesFile name bytes)
  file_passes passes = goes_after_writing (PassesFile name) (λ given s t draft does. record { later = does.later; grows = does.grows; each = does.each }) bytes a b c written passes

  fails_beside : (call : ShelfCall) (given : List ℕ) (s t : Folder) (draft : Option Draft) → PlaceFails name given call (record s { draft = draft }) t → PlaceFails name given call s t
  fails_beside SyncDraft given s t draft does = does
  fails_beside Publish given s t draft (inl same) = inl same
  fails_beside Publish given s t draft (inr reads) = inr reads
  fails_beside SyncFolder given s t draft does = does
  fails_beside Names given s t draft does = absurd does
  fails_beside Length given s t draft does = absurd does
  fails_beside ReadAt given s t draft does = absurd does
  fails_beside StartDraft given s t draft does = absurd does
  fails_beside Append given s t draft does = absurd does

  to_keep_fails : (call : ShelfCall) (s t : Folder) → PlaceFails name bytes call s t → KeepFails name bytes call s t
  to_keep_fails SyncDraft s t does = does
  to_keep_fails Publish s t does = does
  to_keep_fails SyncFolder s t does = does
  to_keep_fails Names s t does = absurd does
  to_keep_fails Length s t does = absurd does
  to_keep_fails ReadAt s t does = absurd does
  to_keep_fails StartDraft s t does = absurd does
  to_keep_fails Append s t does = absurd does

  pub place_fails : (call : ShelfCall) → Goes b c (OfDraft (λ given. PlaceFails name given call)) → Goes a c (PlaceFails name bytes call)
  place_fails call failed = goes_after_writing (λ given. PlaceFails name given call) (fails_beside call) bytes a b c written failed

  pub file_fails : (call : ShelfCall) → Goes b c (OfDraft (λ given. PlaceFails name given call)) → Goes a c (KeepFails name bytes call)
  file_fails call failed = goes_weaker a c (PlaceFails name bytes call) (KeepFails name bytes call) (place_fails call failed) (to_keep_fails call)

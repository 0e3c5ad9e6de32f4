-- A barrier, and the calls after it.
use Rattle.std.proofs.Common.{◌≡◌, ◌⊎◌, inl, inr, Option, None, Some, IfSome, sym, ap, ◌∙◌, subst}
use Rattle.edge_io.specs.Disk.{Files, Disk, Folder, IsImage, at_rest}
use Rattle.edge_io.specs.Moments.{Passes}
use Rattle.edge_io.specs.Steps.{Goes, Stays, Settled}
use Rattle.edge_io.proofs.Going.{goes_then, goes_from}
use Rattle.edge_io.proofs.Passing.{passes_one, passes_then, passes_weaker}
use Rattle.run_shelf.specs.Images.{AtRest, PassesOld}

pub rest_images : (files image : Files) → IsImage (at_rest files) image → image ≡ files
rest_images files image (inl is) = is
rest_images files image (inr none) = absurd none

pub goes_with : {S : Type 0} (a b : Option S) (P : S → Type 0) (R : S → S → Type 0) → IfSome a P → Goes a b R → Goes a b (λ s t. P s × R s t)
goes_with a b P R here step = goes_from a b P R (λ s t. P s × R s t) here step (λ s t p r. (p, r))

-- what is known where the step ends, by what was known where it began
pub some_after : {S : Type 0} (a b : Option S) (R : S → S → Type 0) (Q : S → Type 0) → Goes a b R → ((s t : S) → R s t → Q t) → IfSome b Q
some_after None None R Q step f = tt
some_after None (Some t) R Q step f = absurd step
some_after (Some s) None R Q step f = absurd step
some_after (Some s) (Some t) R Q step f = f s t step

pub stays_some : {S : Type 0} (a b : Option S) (P : S → Type 0) → IfSome a P → Goes a b Stays → IfSome b P
stays_some a b P here same = some_after a b (λ s t. P s × Stays s t) P (goes_with a b P Stays here same) (λ s t both. subst P (sym both.1) both.0)

-- where all is at rest
module _ (s : Folder) (rest : AtRest s) where
  pub at_rest_images : (image : Files) → IsImage s.disk image → image ≡ s.disk.published
  at_rest_images image left = rest_images s.disk.published image (subst (λ (d : Disk). IsImage d image) rest left)

-- a barrier from s to m
module _ (s m : Folder) (counts : IsImage s.disk s.disk.published) (settled : Settled s m) where
  pub disk_after : m.disk ≡ at_rest s.disk.published
  disk_after = ap (λ (f : Folder). f.disk) settled

  pub published_after : m.disk.published ≡ s.disk.published
  published_after = ap (λ (d : Disk). d.published) disk_after

  pub rests_after : AtRest m
  rests_after = disk_after ∙ ap at_rest (sym published_after)

  image_before : (image : Files) → image ≡ s.disk.published → IsImage s.disk image
  image_before image is = subst (IsImage s.disk) (sym is) counts

  pub images_after : (image : Files) → IsImage m.disk image → IsImage s.disk image
  images_after image left = image_before image (rest_images s.disk.published image (subst (λ (d : Disk). IsImage d image) disk_after left))

  -- it leaves what a stop before might have left
  pub barrier_passes : (P : Files → Type 0) → ((image : Files) → IsImage s.disk image → P image) → Passes P s m
  barrier_passes P weaker =
      passes_one P s m (at_rest s.disk.published) s.draft settled (λ image left. weaker image (image_before image (rest_images s.disk.published image left)))

  -- what stands beside the files after it, stands beside those before it
  module _ (B : Files → Files → Type 0) where
    moved_back : (image : Files) → IsImage m.disk image ⊎ B m.disk.published image → IsImage s.disk image ⊎ B s.disk.published image
    moved_back image (inl old) = inl (images_after image old)
    moved_back image (inr new) = inr (subst (λ (f : Files). B f image) published_after new)

    pub passes_after : (t : Folder) → Passes (λ image. IsImage m.disk image ⊎ B m.disk.published image) m t → Passes (λ image. IsImage s.disk image ⊎ B s.disk.published image) s t
    passes_after t later =
        passes_then (λ image. IsImage s.disk image ⊎ B s.disk.published image) s m t
        (barrier_passes (λ image. IsImage s.disk image ⊎ B s.disk.published image) (λ image old. inl old))
        (passes_weaker (λ image. IsImage m.disk image ⊎ B m.disk.published image) (λ image. IsImage s.disk image ⊎ B s.disk.published image) moved_back m t later)

-- the same where the folder is told or not
module _ (a b : Option Folder) (counts : IfSome a (λ s. IsImage s.disk s.disk.published)) (settled : Goes a b Settled) where
  pub goes_old : Goes a b PassesOld
  goes_old = goes_from a b (λ s. IsImage s.disk s.disk.published) Settled PassesOld counts settled (λ s t here is. barrier_passes s t here is (IsImage s.disk) (λ image old. old))

  pub goes_beside : (B : Files → Files → Type 0) → Goes a b (λ s t. Passes (λ image. IsImage s.disk image ⊎ B s.disk.published image) s t)
  goes_beside B =
      goes_from a b (λ s. IsImage s.disk s.disk.published) Settled (λ s t. Passes (λ image. IsImage s.disk image ⊎ B s.disk.published image) s t) counts settled
      (λ s t here is. barrier_passes s t here is (λ image. IsImage s.disk image ⊎ B s.disk.published image) (λ image old. inl old))

  pub goes_after : (c : Option Folder) (B : Files → Files → Type 0)
      → Goes b c (λ m t. Passes (λ image. IsImage m.disk image ⊎ B m.disk.published image) m t)
      → Goes a c (λ s t. Passes (λ image. IsImage s.disk image ⊎ B s.disk.published image) s t)
  goes_after c B later =
      goes_then a b c (λ s m. IsImage s.disk s.disk.published × Settled s m) (λ m t. Passes (λ image. IsImage m.disk image ⊎ B m.disk.published image) m t)
      (λ s t. Passes (λ image. IsImage s.disk image ⊎ B s.disk.published image) s t)
      (goes_with a b (λ s. IsImage s.disk s.disk.published) Settled counts settled) later
      (λ s m t both passes. passes_after s m both.0 both.1 B t passes)

  pub settled_stays : (c : Option Folder) → Goes b c Stays → Goes a c Settled
  settled_stays c same = goes_then a b c Settled Stays Settled settled same (λ s m t is stays. stays ∙ is)

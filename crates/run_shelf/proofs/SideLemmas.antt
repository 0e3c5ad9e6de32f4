-- A file of a cache put beside the runs.
use Rattle.std.proofs.Common.{◌≡◌, ◌⊎◌, inl, inr, ℕ, Option, None, Some, List, Bool, refl, sym, ap, ◌∙◌, subst}
use Rattle.edge_io.specs.Disk.{Files, put, Disk, Folder, IsImage, at_rest}
use Rattle.edge_io.specs.Steps.{Goes}
use Rattle.edge_io.proofs.Going.{goes_weaker}
use Rattle.edge_io.proofs.Passing.{passes_weaker, passes_same}
use Rattle.run_shelf.specs.Holds.{FitsFolder, FitsWhereTold}
use Rattle.run_shelf.specs.Images.{KeepsFile, PassesFile}
use Rattle.run_shelf.specs.Outcomes.{KeepFails}
use Rattle.run_shelf.specs.Repository.{Shows, HasKinds, IsRepository}
use Rattle.run_shelf.specs.Sides.{cache_file_name, SameButCaches, HasCacheFileBeside, PassesCacheFile, KeepsCacheFile}
use Rattle.run_shelf.specs.declared.faults.ShelfCall.{ShelfCall}
use Rattle.run_shelf.specs.declared.cache_file.CacheFile.{CacheFile}
use Rattle.run_shelf.proofs.Joining.{rest_images, goes_with, some_after}
use Rattle.run_shelf.proofs.SameLemmas.{shows_still, kinds_still, repository_still, same_put}

module _ (files : Files) (side : CacheFile) (bytes : List ℕ) where
  abbrev image : Files
  image = put files (cache_file_name side) bytes

  pub side_beside : (other : Files) → other ≡ image → HasCacheFileBeside files side bytes other
  side_beside other is = record {
    is = is;
    repository = λ repository. subst IsRepository (sym is) (repository_still files image (same_put files side bytes) repository);
    shows = λ runs shows. subst (λ (f : Files). Shows f runs) (sym is) (shows_still files image (same_put files side bytes) runs shows);
  }

-- what was kept and what a stop leaves, for the name that the file has
module _ (side : CacheFile) (name bytes : List ℕ) (named : name ≡ cache_file_name side) (a b : Option Folder) where
  image_is : (files : Files) → put files name bytes ≡ put files (cache_file_name side) bytes
  image_is files = ap (λ (n : List ℕ). put files n bytes) named

  keeps : (s t : Folder) → KeepsFile name bytes s t → KeepsCacheFile side bytes s t
  keeps s t kept =
      let disk : t.disk ≡ at_rest (put s.disk.published (cache_file_name side) bytes) = kept ∙ ap at_rest (image_is s.disk.published) in
      record {
        disk = disk;
        lasts = λ left is. side_beside s.disk.published side bytes left (rest_images (put s.disk.published (cache_file_name side) bytes) left (subst (λ (d : Disk). IsImage d left) disk is));
      }

  pub goes_keeps_side : Goes a b (KeepsFile name bytes) → Goes a b (KeepsCacheFile side bytes)
  goes_keeps_side kept = goes_weaker a b (KeepsFile name bytes) (KeepsCacheFile side bytes) kept keeps

  allowed : (s : Folder) (left : Files) → IsImage s.disk left ⊎ (left ≡ put s.disk.published name bytes) → IsImage s.disk left ⊎ HasCacheFileBeside s.disk.published side bytes left
  allowed s left (inl old) = inl old
  allowed s left (inr new) = inr (side_beside s.disk.published side bytes left (new ∙ image_is s.disk.published))

  passes : (s t : Folder) → PassesFile name bytes s t → PassesCacheFile side bytes s t
  passes s t through =
      passes_weaker (λ left. IsImage s.disk left ⊎ (left ≡ put s.disk.published name bytes)) (λ left. IsImage s.disk left ⊎ HasCacheFileBeside s.disk.published side bytes left)
      (allowed s) s t through

  pub goes_passes_side : Goes a b (PassesFile name bytes) → Goes a b (PassesCacheFile side bytes)
  goes_passes_side through = goes_weaker a b (PassesFile name bytes) (PassesCacheFile side bytes) through passes

  pub goes_fails_side : (call : ShelfCall) → Goes a b (KeepFails name bytes call) → Goes a b (KeepFails (cache_file_name side) bytes call)
  goes_fails_side call failed = subst (λ (n : List ℕ). Goes a b (KeepFails n bytes call)) named failed

-- what the store knows still fits
module _ (kinds : List Bool) (side : CacheFile) (bytes : List ℕ) where
  fits_after : (s t : Folder) → FitsFolder kinds s × KeepsCacheFile side bytes s t → FitsFolder kinds t
  fits_after s t both =
      let beside : Files = put s.disk.published (cache_file_name side) bytes in
      let same : SameButCaches s.disk.published beside = same_put s.disk.published side bytes in
      let published : t.disk.published ≡ beside = ap (λ (d : Disk). d.published) both.1.disk in
      record {
        rest = both.1.disk ∙ ap at_rest (sym published);
        repository = subst IsRepository (sym published) (repository_still s.disk.published beside same both.0.repository);
        kinds_are = subst (λ (f : Files). HasKinds f kinds) (sym published) (kinds_still s.disk.published beside same kinds both.0.kinds_are);
      }

  pub goes_fits_side : (a b : Option Folder) → FitsWhereTold kinds a → Goes a b (KeepsCacheFile side bytes) → FitsWhereTold kinds b
  goes_fits_side a b fits kept =
      some_after a b (λ s t. FitsFolder kinds s × KeepsCacheFile side bytes s t) (FitsFolder kinds)
      (goes_with a b (FitsFolder kinds) (KeepsCacheFile side bytes) fits kept) fits_after

-- nothing was done
pub side_passes_still : (side : CacheFile) (bytes : List ℕ) (a : Option Folder) → Goes a a (PassesCacheFile side bytes)
side_passes_still side bytes None = tt
side_passes_still side bytes (Some s) = passes_same (λ left. IsImage s.disk left ⊎ HasCacheFileBeside s.disk.published side bytes left) s s refl refl

-- Files that differ in what an upgrade makes alone.
use Rattle.std.proofs.Common.{◌≡◌, ◌⊎◌, inl, inr, ℕ, ◌+◌, ◌<◌, ◌≤◌, Option, List, refl, sym, ap, ◌∙◌, subst, arith, true, false}
use Rattle.edge_io.specs.Disk.{Files, put, Folder, IsImage}
use Rattle.edge_io.specs.Steps.{Goes}
use Rattle.edge_io.proofs.Going.{goes_weaker}
use Rattle.edge_io.proofs.Passing.{passes_weaker}
use Rattle.run_shelf.specs.Adoption.{IsOld, SameButNew, PassesNew}
use Rattle.run_shelf.specs.Bases.{base_name}
use Rattle.run_shelf.specs.Drafts.{OfDraft}
use Rattle.run_shelf.specs.Images.{PassesFile}
use Rattle.run_shelf.specs.Repository.{full_name, partial_name, most_runs, format_name}
use Rattle.run_shelf.proofs.AdoptLemmas.{base_no_format}
use Rattle.run_shelf.proofs.NameLemmas.{format_differs, base_differs, partial_differs}
use Rattle.run_shelf.proofs.RunLemmas.{put_other}

pub old_still : (count : ℕ) (files image : Files) → count ≤ most_runs → SameButNew count files image → IsOld files → IsOld image
old_still count files image few same old =
    same.each format_name (λ e. base_no_format (sym e)) (λ number less e. format_differs number true (omega (arith, less, few)) e) ∙ old

pub full_still : (count number : ℕ) (files image : Files) → count ≤ most_runs → number < most_runs → SameButNew count files image → image (full_name number) ≡ files (full_name number)
full_still count number files image few small same =
    same.each (full_name number) (λ e. base_differs number false (omega (arith, small)) (sym e)) (λ other less e. partial_differs other number (omega (arith, small)) (sym e))

pub run_put : (count number : ℕ) (files : Files) (bytes : List ℕ) → number < count → SameButNew count files (put files (partial_name number) bytes)
run_put count number files bytes less = record { each = λ name no_base no_run. put_other files (partial_name number) bytes name (no_run number less) }

pub base_put : (count : ℕ) (files : Files) (bytes : List ℕ) → SameButNew count files (put files base_name bytes)
base_put count files bytes = record { each = λ name no_base no_run. put_other files base_name bytes name no_base }

pub new_itself : (count : ℕ) (files : Files) → SameButNew count files files
new_itself count files = record { each = λ name no_base no_run. refl }

pub new_then : (count : ℕ) (files middle image : Files) → SameButNew count files middle → SameButNew count middle image → SameButNew count files image
new_then count files middle image first second = record { each = λ name no_base no_run. second.each name no_base no_run ∙ first.each name no_base no_run }

-- a converted run that is placed
module _ (number : ℕ) (name : List ℕ) (is : name ≡ partial_name number) where
  passes : (bytes : List ℕ) (s t : Folder) → PassesFile name bytes s t → PassesNew (number + 1) s t
  passes bytes s t through =
      passes_weaker (λ image. IsImage s.disk image ⊎ (image ≡ put s.disk.published name bytes)) (λ image. IsImage s.disk image ⊎ SameButNew (number + 1) s.disk.published image) (by s) s t through
    where
      by : (s : Folder) (image : Files) → IsImage s.disk image ⊎ (image ≡ put s.disk.published name bytes) → IsImage s.disk image ⊎ SameButNew (number + 1) s.disk.published image
      by s image (inl left) = inl left
      by s image (inr new) =
          inr (subst (λ (f : Files). SameButNew (number + 1) s.disk.published f) (sym (new ∙ ap (λ (n : List ℕ). put s.disk.published n bytes) is)) (run_put (number + 1) number s.disk.published bytes (omega arith)))

  pub goes_new : (a b : Option Folder) → Goes a b (OfDraft (PassesFile name)) → Goes a b (PassesNew (number + 1))
  goes_new a b step = goes_weaker a b (OfDraft (PassesFile name)) (PassesNew (number + 1)) step (λ s t of. passes of.bytes s t of.does)

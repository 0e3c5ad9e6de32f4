-- One file that is copied.
use Rattle.std.proofs.Common.{◌≡◌, ◌⊎◌, inl, inr, ℕ, true, false, Option, Some, None, List, IfSome, IsSome, Result, Ok, Err, OnErr, refl, sym, ap, ◌∙◌, subst, arith}
use Rattle.std.specs.Str.{bytes_eq}
use Rattle.std.proofs.lemmas.Bool.{cases_Bool, cond-false}
use Rattle.std.proofs.lemmas.Slice.Eq.{bytes_eq-Decides}
use Rattle.edge_io.specs.Causes.{HasCause, RisesExactlyIf, Rose}
use Rattle.edge_io.specs.Disk.{Files, Disk, Folder, IsImage, at_rest, put}
use Rattle.edge_io.specs.Seen.{Seen}
use Rattle.edge_io.specs.Steps.{Goes, Stays}
use Rattle.edge_io.proofs.Going.{goes_weaker, goes_then}
use Rattle.edge_io.proofs.Passing.{passes_same, passes_weaker}
use Rattle.run_shelf.specs.Images.{AtRest, SameDisk, KeepsFile, PassesFile}
use Rattle.run_shelf.specs.Outcomes.{KeepFails}
use Rattle.run_shelf.specs.declared.faults.ShelfCall.{ShelfCall}
use Rattle.run_shelf.specs.declared.faults.ShelfCall.TheVariants as call
use Rattle.run_shelf.proofs.Joining.{goes_with, stays_some, some_after}
use Rattle.run_shelf.proofs.RunLemmas.{put_here, none_is_not_some}
use Rattle.old_copies.specs.Copying.{folder_in, IsName, Between, HasCopies, HoldsOnlyCopies, HoldsOther, StepFails, PassesCopies, ReadsCopies, Copies, CopyStep, Places, told_in, folder_failed, site_failed}
use Rattle.old_copies.specs.Looking.{IsOfFolder, IsOfSite}
use Rattle.old_copies.specs.declared.faults.OldCopyFault.{OldCopyFault}
use Rattle.old_copies.specs.declared.faults.OldCopyFault.TheVariants.{Here, OldHere, StrangeHere, NoStore, NotOld, UnknownFormat, BadCount, OtherFiles, Site, Shelf, NoMemory}

-- ---- counts

pub rests : (n m : ℕ) → m ≡ n → RisesExactlyIf n m false
rests n m same = record { later = omega (arith, same); rose = λ failed. cc; stands = λ done. same }

pub rises : {T E : Type 0} (n m : ℕ) (result : Result T E) (fault : E) → result ≡ Err fault → HasCause n m result → RisesExactlyIf n m true
rises {T = T} {E = E} n m result fault is cause = record { later = cause.later; rose = λ failed. subst (λ (r : Result T E). OnErr r (Rose n m)) is cause.failed; stands = λ done. cc }

pub quiet_folder : (T : Type 0) (n : ℕ) (fault : OldCopyFault) → IsOfSite fault → RisesExactlyIf n n (folder_failed {T = T} (Err fault))
quiet_folder T n Site of = rests n n refl
quiet_folder T n NoMemory of = rests n n refl
quiet_folder T n Here of = absurd of
quiet_folder T n OldHere of = absurd of
quiet_folder T n StrangeHere of = absurd of
quiet_folder T n NoStore of = absurd of
quiet_folder T n NotOld of = absurd of
quiet_folder T n UnknownFormat of = absurd of
quiet_folder T n BadCount of = absurd of
quiet_folder T n OtherFiles of = absurd of
quiet_folder T n (Shelf which) of = absurd of

pub quiet_site : (T : Type 0) (n m : ℕ) (fault : OldCopyFault) → IsOfFolder fault → RisesExactlyIf n m false → RisesExactlyIf n m (site_failed {T = T} (Err fault))
quiet_site T n m (Shelf which) of stands = stands
quiet_site T n m NoMemory of stands = stands
quiet_site T n m Here of stands = absurd of
quiet_site T n m OldHere of stands = absurd of
quiet_site T n m StrangeHere of stands = absurd of
quiet_site T n m NoStore of stands = absurd of
quiet_site T n m NotOld of stands = absurd of
quiet_site T n m UnknownFormat of stands = absurd of
quiet_site T n m BadCount of stands = absurd of
quiet_site T n m OtherFiles of stands = absurd of
quiet_site T n m Site of stands = absurd of

-- ---- why a file was not read

pub of_site : (Of : List ℕ → Type 0) (old files : Files) (fault : OldCopyFault) → IsOfSite fault → StepFails Of old files fault
of_site Of old files Site of = tt
of_site Of old files NoMemory of = tt
of_site Of old files Here of = absurd of
of_site Of old files OldHere of = absurd of
of_site Of old files StrangeHere of = absurd of
of_site Of old files NoStore of = absurd of
of_site Of old files NotOld of = absurd of
of_site Of old files UnknownFormat of = absurd of
of_site Of old files BadCount of = absurd of
of_site Of old files OtherFiles of = absurd of
of_site Of old files (Shelf which) of = absurd of

pub of_folder : (Of : List ℕ → Type 0) (old files : Files) (fault : OldCopyFault) → IsOfFolder fault → StepFails Of old files fault
of_folder Of old files (Shelf which) of = tt
of_folder Of old files NoMemory of = tt
of_folder Of old files Here of = absurd of
of_folder Of old files OldHere of = absurd of
of_folder Of old files StrangeHere of = absurd of
of_folder Of old files NoStore of = absurd of
of_folder Of old files NotOld of = absurd of
of_folder Of old files UnknownFormat of = absurd of
of_folder Of old files BadCount of = absurd of
of_folder Of old files OtherFiles of = absurd of
of_folder Of old files Site of = absurd of

-- ---- what reads give where a file was not kept

same_published : (s t : Folder) → SameDisk s t → t.disk.published ≡ s.disk.published
same_published s t same = ap (λ (d : Disk). d.published) same

kept_or_not : (name bytes : List ℕ) (which : ShelfCall) (s t : Folder) → KeepFails name bytes which s t → (t.disk.published ≡ s.disk.published) ⊎ (t.disk.published ≡ put s.disk.published name bytes)
kept_or_not name bytes call.Names s t fails = absurd fails
kept_or_not name bytes call.Length s t fails = absurd fails
kept_or_not name bytes call.ReadAt s t fails = absurd fails
kept_or_not name bytes call.StartDraft s t fails = inl (same_published s t fails)
kept_or_not name bytes call.Append s t fails = inl (same_published s t fails)
kept_or_not name bytes call.SyncDraft s t fails = inl (same_published s t fails)
kept_or_not name bytes call.Publish s t (inl same) = inl (same_published s t same)
kept_or_not name bytes call.Publish s t (inr reads) = inr reads
kept_or_not name bytes call.SyncFolder s t fails = inr fails

-- ---- what is told of both

pub goes_still : {S : Type 0} (a : Option S) → Goes a a Stays
goes_still None = tt
goes_still (Some s) = refl

-- a step of the folder here, whatever is told of the site
pub told_or_not : (from : List ℕ) (w : Option Files) (a b : Option Folder) (Q : Files → Folder → Folder → Type 0) → ((old : Files) → Goes a b (Q old)) → IfSome w (λ files. Goes a b (Q (folder_in from files)))
told_or_not from None a b Q each = tt
told_or_not from (Some files) a b Q each = each (folder_in from files)

-- the same where something is known of the other folder's files
pub by_known : (from : List ℕ) (w : Option Files) (P : Files → Type 0) (a b : Option Folder) (Q : Files → Folder → Folder → Type 0) → IfSome w (λ files. P (folder_in from files)) → ((old : Files) → P old → Goes a b (Q old)) → IfSome w (λ files. Goes a b (Q (folder_in from files)))
by_known from None P a b Q known each = tt
by_known from (Some files) P a b Q known each = each (folder_in from files) known

-- what is known of the other folder's files, where they are told
pub in_told : (from : List ℕ) (w : Option Files) (P : Files → Type 0) → IfSome w (λ files. P (folder_in from files)) → IfSome (told_in from w) P
in_told from None P known = tt
in_told from (Some files) P known = known

-- a step that goes by what is told of the other folder, where that is told
pub as_told : (from : List ℕ) (w : Option Files) (a b : Option Folder) (R : Option Files → Folder → Folder → Type 0) → Goes a b (R (told_in from w)) → IfSome w (λ files. Goes a b (R (Some (folder_in from files))))
as_told from None a b R step = tt
as_told from (Some files) a b R step = step

still_passes : (Of : List ℕ → Type 0) (told : Option Files) (s t : Folder) → Stays s t → PassesCopies Of told s t
still_passes Of told s t same = passes_same (λ image. IsImage s.disk image ⊎ Between Of told s.disk.published image) s t (ap (λ (f : Folder). f.disk) same) (ap (λ (f : Folder). f.past) same)

still_reads : (Of : List ℕ → Type 0) (told : Option Files) (s t : Folder) → Stays s t → ReadsCopies Of told s t
still_reads Of told s t same other = inl (ap (λ (f : Folder). f.disk.published other) same)

-- ---- nothing was put

module _ (Of : List ℕ → Type 0) (from : List ℕ) (x y : Places) (same : y.site.told ≡ x.site.told) (stays : Goes x.folder.told y.folder.told Stays) where
  still_moments : Goes x.folder.told y.folder.told (PassesCopies Of (told_in from x.site.told))
  still_moments = goes_weaker x.folder.told y.folder.told Stays (PassesCopies Of (told_in from x.site.told)) stays (still_passes Of (told_in from x.site.told))

  still_seen : Goes x.folder.told y.folder.told (ReadsCopies Of (told_in from x.site.told))
  still_seen = goes_weaker x.folder.told y.folder.told Stays (ReadsCopies Of (told_in from x.site.told)) stays (still_reads Of (told_in from x.site.told))

  pub not_put : {T : Type 0} (fault : OldCopyFault) → ((old files : Files) → StepFails Of old files fault) → RisesExactlyIf x.folder.faults y.folder.faults (folder_failed {T = T} (Err fault)) → RisesExactlyIf x.site.faults y.site.faults (site_failed {T = T} (Err fault)) → CopyStep {T = T} Of from x y (Err fault)
  not_put fault fails folder site = record {
    same = same;
    rest = tt;
    copied = tt;
    refused = told_or_not from x.site.told x.folder.told y.folder.told (λ old s t. StepFails Of old s.disk.published fault) (λ old. goes_weaker x.folder.told y.folder.told Stays (λ s t. StepFails Of old s.disk.published fault) stays (λ s t is. fails old s.disk.published));
    reads = still_seen;
    any_moment = still_moments;
    folder = folder;
    site = site;
  }

-- ---- both were read

module _ (name from : List ℕ) (x y : Places) (there here : Option (List ℕ)) (same : y.site.told ≡ x.site.told) (stays : Goes x.folder.told y.folder.told Stays) (rest : IfSome x.folder.told AtRest)
    (read_there : IfSome x.site.told (λ files. folder_in from files name ≡ there)) (read_here : IfSome x.folder.told (λ s. here ≡ s.disk.published name))
    (folder : RisesExactlyIf x.folder.faults y.folder.faults false) (site : RisesExactlyIf x.site.faults y.site.faults false) where
  known_here : Goes x.folder.told y.folder.told (λ s t. (here ≡ s.disk.published name) × Stays s t)
  known_here = goes_with x.folder.told y.folder.told (λ s. here ≡ s.disk.published name) Stays read_here stays

  has_same : here ≡ there → (old : Files) → old name ≡ there → (s t : Folder) → (here ≡ s.disk.published name) × Stays s t → Copies (IsName name) old s t
  has_same equal old is s t known = record {
    has = record {
      each = λ other named. ap t.disk.published named ∙ ap (λ (f : Folder). f.disk.published name) known.1 ∙ sym known.0 ∙ equal ∙ sym is ∙ sym (ap old named);
      between = λ other. inl (ap (λ (f : Folder). f.disk.published other) known.1);
    };
    stood = λ other named there. ap s.disk.published named ∙ sym known.0 ∙ equal ∙ sym is ∙ sym (ap old named);
  }

  -- they are the same
  pub put_already : {T : Type 0} (value : T) → here ≡ there → CopyStep (IsName name) from x y (Ok value)
  put_already value equal = record {
    same = same;
    rest = stays_some x.folder.told y.folder.told AtRest rest stays;
    copied = by_known from x.site.told (λ old. old name ≡ there) x.folder.told y.folder.told (Copies (IsName name)) read_there (λ old is. goes_weaker x.folder.told y.folder.told (λ s t. (here ≡ s.disk.published name) × Stays s t) (Copies (IsName name) old) known_here (has_same equal old is));
    refused = tt;
    reads = still_seen (IsName name) from x y same stays;
    any_moment = still_moments (IsName name) from x y same stays;
    folder = folder;
    site = site;
  }

  holds_other : IsSome here → (here ≡ there → ⊥) → (old : Files) → old name ≡ there → (s t : Folder) → (here ≡ s.disk.published name) × Stays s t → HoldsOther (IsName name) old s.disk.published
  holds_other some differs old is s t known = record {
    name = name;
    named = refl;
    there = subst IsSome known.0 some;
    other = λ e. differs (known.0 ∙ e ∙ is);
  }

  -- they differ
  pub put_otherwise : {T : Type 0} → IsSome here → (here ≡ there → ⊥) → CopyStep {T = T} (IsName name) from x y (Err OtherFiles)
  put_otherwise some differs = record {
    same = same;
    rest = tt;
    copied = tt;
    refused = by_known from x.site.told (λ old. old name ≡ there) x.folder.told y.folder.told (λ old s t. StepFails (IsName name) old s.disk.published OtherFiles) read_there (λ old is. goes_weaker x.folder.told y.folder.told (λ s t. (here ≡ s.disk.published name) × Stays s t) (λ s t. StepFails (IsName name) old s.disk.published OtherFiles) known_here (holds_other some differs old is));
    reads = still_seen (IsName name) from x y same stays;
    any_moment = still_moments (IsName name) from x y same stays;
    folder = folder;
    site = site;
  }

  -- there was none here, and it is put
  module _ (z : Places) (bytes : List ℕ) (is_new : there ≡ Some bytes) (is_free : here ≡ None) (site_still : z.site ≡ y.site) where
    put_each : (old files : Files) → old name ≡ there → (other : List ℕ) → IsName name other → put files name bytes other ≡ old other
    put_each old files is other named = put_here files name bytes other named ∙ sym is_new ∙ sym is ∙ sym (ap old named)

    put_told : (told : Option Files) (files : Files) → IfSome told (λ old. old name ≡ there) → (other : List ℕ) → IsName name other → IfSome told (λ old. put files name bytes other ≡ old other)
    put_told None files is other named = tt
    put_told (Some old) files is other named = put_each old files is other named

    put_between : (told : Option Files) (files : Files) → IfSome told (λ old. old name ≡ there) → Between (IsName name) told files (put files name bytes)
    put_between told files is other = elim (cases_Bool (bytes_eq other name)) [
      | inl hits ↦
          let named : other ≡ name = (bytes_eq-Decides other name).0 hits in
          inr (named, put_told told files is other named)
      | inr misses ↦ inl (cond-false (bytes_eq other name) (Some bytes) (files other) misses)
    ]

    -- none stood here
    none_stood : (old files : Files) → here ≡ files name → HoldsOnlyCopies (IsName name) old files
    none_stood old files known other named some = absurd (none_is_not_some (files other) (ap files named ∙ sym known ∙ is_free) some)

    put_copies : (old : Files) → old name ≡ there → (s t : Folder) → (here ≡ s.disk.published name) × KeepsFile name bytes s t → Copies (IsName name) old s t
    put_copies old is s t (known, kept) =
        let published : t.disk.published ≡ put s.disk.published name bytes = ap (λ (d : Disk). d.published) kept in
        record {
          has = subst (λ (f : Files). HasCopies (IsName name) old s.disk.published f) (sym published)
              (record { each = put_each old s.disk.published is; between = put_between (Some old) s.disk.published is });
          stood = none_stood old s.disk.published known;
        }

    put_passes : (told : Option Files) → IfSome told (λ old. old name ≡ there) → (s t : Folder) → PassesFile name bytes s t → PassesCopies (IsName name) told s t
    put_passes told is s t passes = passes_weaker (λ image. IsImage s.disk image ⊎ (image ≡ put s.disk.published name bytes)) (λ image. IsImage s.disk image ⊎ Between (IsName name) told s.disk.published image) more s t passes
      where
        more : (image : Files) → IsImage s.disk image ⊎ (image ≡ put s.disk.published name bytes) → IsImage s.disk image ⊎ Between (IsName name) told s.disk.published image
        more image (inl was) = inl was
        more image (inr new) = inr (subst (λ (f : Files). Between (IsName name) told s.disk.published f) (sym new) (put_between told s.disk.published is))

    -- behind a read, in which nothing changed
    from_first : (R : Folder → Folder → Type 0) → Goes y.folder.told z.folder.told R → Goes x.folder.told z.folder.told R
    from_first R step = goes_then x.folder.told y.folder.told z.folder.told Stays R R stays step (λ s m t p q. subst (λ (f : Folder). R f t) p q)

    abbrev told : Option Files
    told = told_in from x.site.told

    read_told : IfSome told (λ old. old name ≡ there)
    read_told = in_told from x.site.told (λ old. old name ≡ there) read_there

    put_moments : Goes y.folder.told z.folder.told (PassesFile name bytes) → Goes x.folder.told z.folder.told (PassesCopies (IsName name) told)
    put_moments passes = goes_weaker x.folder.told z.folder.told (PassesFile name bytes) (PassesCopies (IsName name) told) (from_first (PassesFile name bytes) passes) (put_passes told read_told)

    put_reads : (s t : Folder) → (t.disk.published ≡ s.disk.published) ⊎ (t.disk.published ≡ put s.disk.published name bytes) → ReadsCopies (IsName name) told s t
    put_reads s t (inl same_files) other = inl (ap (λ (f : Files). f other) same_files)
    put_reads s t (inr new) other = subst (λ (f : Files). Between (IsName name) told s.disk.published f) (sym new) (put_between told s.disk.published read_told) other

    put_seen : Goes y.folder.told z.folder.told (λ s t. (t.disk.published ≡ s.disk.published) ⊎ (t.disk.published ≡ put s.disk.published name bytes)) → Goes x.folder.told z.folder.told (ReadsCopies (IsName name) told)
    put_seen step =
        let Seen_so : Folder → Folder → Type 0 = λ s t. (t.disk.published ≡ s.disk.published) ⊎ (t.disk.published ≡ put s.disk.published name bytes) in
        goes_weaker x.folder.told z.folder.told Seen_so (ReadsCopies (IsName name) told) (from_first Seen_so step) put_reads

    rests_then : (s t : Folder) → KeepsFile name bytes s t → AtRest t
    rests_then s t kept = kept ∙ ap at_rest (sym (ap (λ (d : Disk). d.published) kept))

    later_told : z.site.told ≡ x.site.told
    later_told = ap (λ (w : Seen Files). w.told) site_still ∙ same

    later_faults : RisesExactlyIf x.site.faults z.site.faults false
    later_faults = subst (λ (w : Seen Files). RisesExactlyIf x.site.faults w.faults false) (sym site_still) site

    pub put_now : {T : Type 0} (value : T) → Goes y.folder.told z.folder.told (KeepsFile name bytes) → Goes y.folder.told z.folder.told (PassesFile name bytes) → z.folder.faults ≡ y.folder.faults → CopyStep (IsName name) from x z (Ok value)
    put_now value kept passes quiet = record {
      same = later_told;
      rest = some_after y.folder.told z.folder.told (KeepsFile name bytes) AtRest kept rests_then;
      copied = by_known from x.site.told (λ old. old name ≡ there) x.folder.told z.folder.told (Copies (IsName name)) read_there (λ old is. goes_weaker x.folder.told z.folder.told (λ s t. (here ≡ s.disk.published name) × KeepsFile name bytes s t) (Copies (IsName name) old) (goes_with x.folder.told z.folder.told (λ s. here ≡ s.disk.published name) (KeepsFile name bytes) read_here (from_first (KeepsFile name bytes) kept)) (put_copies old is));
      refused = tt;
      reads = put_seen (goes_weaker y.folder.told z.folder.told (KeepsFile name bytes) (λ s t. (t.disk.published ≡ s.disk.published) ⊎ (t.disk.published ≡ put s.disk.published name bytes)) kept (λ s t is. inr (ap (λ (d : Disk). d.published) is)));
      any_moment = put_moments passes;
      folder = subst (λ (n : ℕ). RisesExactlyIf x.folder.faults n false) (sym quiet) folder;
      site = later_faults;
    }

    pub put_failed : {T : Type 0} (which : ShelfCall) → Goes y.folder.told z.folder.told (KeepFails name bytes which) → Goes y.folder.told z.folder.told (PassesFile name bytes) → RisesExactlyIf y.folder.faults z.folder.faults true → CopyStep {T = T} (IsName name) from x z (Err (Shelf which))
    put_failed which fails passes rose = record {
      same = later_told;
      rest = tt;
      copied = tt;
      refused = told_or_not from x.site.told x.folder.told z.folder.told (λ old s t. StepFails (IsName name) old s.disk.published (Shelf which)) (λ old. goes_weaker x.folder.told z.folder.told (PassesFile name bytes) (λ s t. StepFails (IsName name) old s.disk.published (Shelf which)) (from_first (PassesFile name bytes) passes) (λ s t p. tt));
      reads = put_seen (goes_weaker y.folder.told z.folder.told (KeepFails name bytes which) (λ s t. (t.disk.published ≡ s.disk.published) ⊎ (t.disk.published ≡ put s.disk.published name bytes)) fails (kept_or_not name bytes which));
      any_moment = put_moments passes;
      folder = subst (λ (n : ℕ). RisesExactlyIf n z.folder.faults true) (folder.stands refl) rose;
      site = later_faults;
    }

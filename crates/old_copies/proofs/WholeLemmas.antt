-- All files, one after another.
use Rattle.std.proofs.Common.{◌≡◌, ◌⊎◌, inl, inr, ℕ, ◌+◌, ◌<◌, ◌≤◌, false, Option, Some, None, List, IfSome, IsSome, Result, Ok, Err, refl, sym, ap, ◌∙◌, subst, arith}
use Rattle.std.proofs.lemmas.Bool.{cases_eq, cases_lt}
use Rattle.edge_io.specs.Causes.{RisesExactlyIf}
use Rattle.edge_io.specs.Disk.{Files, Disk, Folder, IsImage, at_rest}
use Rattle.edge_io.specs.Moments.{Passes}
use Rattle.edge_io.specs.Seen.{Seen}
use Rattle.edge_io.specs.Steps.{Goes, Settled, Stays}
use Rattle.edge_io.proofs.Going.{goes_then, goes_weaker, goes_from}
use Rattle.edge_io.proofs.Passing.{passes_same, passes_then, passes_weaker}
use Rattle.run_shelf.specs.declared.faults.ShelfCall.{ShelfCall}
use Rattle.run_shelf.specs.declared.faults.ShelfCall.TheVariants as call
use Rattle.run_shelf.specs.Images.{AtRest, PassesOld}
use Rattle.run_shelf.specs.Outcomes.{FailsAt}
use Rattle.run_shelf.specs.Repository.{full_name, format_name, most_runs}
use Rattle.run_shelf.proofs.Joining.{rest_images, goes_beside, goes_after, goes_with, settled_stays, some_after}
use Rattle.old_copies.specs.Copying.{folder_in, IsName, Either, IsRunBelow, IsCopiedFirst, IsCopied, Between, HasCopies, HoldsOnlyCopies, HoldsOther, Places, places, folder_failed, site_failed, StepFails, PassesCopies, ReadsCopies, Copies, CopyStep, IsBeingCopied, PassesWay, ReadsWay, CopiesAll, IsOldFolder, PassesTaking, TakesFiles, HasOtherFiles, SameReads, CopyFails, CopiesOld, told_in}
use Rattle.old_copies.specs.Looking.{IsFree, HereFails, HoldsNoOther, CopyNamesFail, CopyLookFails}
use Rattle.old_copies.specs.declared.faults.OldCopyFault.{OldCopyFault}
use Rattle.old_copies.specs.declared.faults.OldCopyFault.TheVariants as fault
use Rattle.old_copies.proofs.BetweenLemmas.{between_self, between_untold, both_between}
use Rattle.old_copies.proofs.FileLemmas.{rests, told_or_not, by_known, as_told}
use Rattle.old_copies.proofs.TextLemmas.{copied_is_text}
use Rattle.old_copies.proofs.StepLemmas.{goes_both, goes_to, by_weaker, by_then, counts_then, failed_wider, done_same, step_then}

-- ---- the runs

module _ (i : ℕ) where
  pub run_more : (name : List ℕ) → Either (IsRunBelow i) (IsName (full_name i)) name → IsRunBelow (i + 1) name
  run_more name (inl below) = (below.0, omega (arith, below.1), below.2)
  run_more name (inr here) = (i, omega arith, here)

  pub run_back : (name : List ℕ) → IsRunBelow (i + 1) name → Either (IsRunBelow i) (IsName (full_name i)) name
  run_back name below = elim (cases_eq below.0 i) [
    | inl same ↦ inr (below.2 ∙ ap full_name same)
    | inr other ↦ inl (below.0, less below.0 i below.1 other, below.2)
  ]
    where
      less : (n m : ℕ) → n < m + 1 → (n ≡ m → ⊥) → n < m
      less n m within differs = elim (cases_lt n m) [
        | inl is ↦ is
        | inr more ↦ absurd (differs (omega (arith, within, more)))
      ]

  pub run_within : (count : ℕ) → i < count → (name : List ℕ) → Either (IsRunBelow i) (IsName (full_name i)) name → IsRunBelow count name
  run_within count less name (inl below) = (below.0, omega (arith, below.1, less), below.2)
  run_within count less name (inr here) = (i, less, here)

-- none at first
pub no_runs : {T : Type 0} (from : List ℕ) (x : Places) (value : T) → IfSome x.folder.told AtRest → CopyStep (IsRunBelow 0) from x x (Ok value)
no_runs from x value rest = record {
  same = refl;
  rest = rest;
  copied = told_or_not from x.site.told x.folder.told x.folder.told (Copies (IsRunBelow 0)) (λ old. still (Copies (IsRunBelow 0) old) x.folder.told (λ s. record { has = record { each = λ name below. absurd (omega (arith, below.1)); between = between_self (IsRunBelow 0) (Some old) s.disk.published }; stood = λ name below. absurd (omega (arith, below.1)) }));
  refused = tt;
  reads = still (ReadsCopies (IsRunBelow 0) (told_in from x.site.told)) x.folder.told (λ s. between_self (IsRunBelow 0) (told_in from x.site.told) s.disk.published);
  any_moment = still (PassesCopies (IsRunBelow 0) (told_in from x.site.told)) x.folder.told (λ s. passes_same (λ image. IsImage s.disk image ⊎ Between (IsRunBelow 0) (told_in from x.site.told) s.disk.published image) s s refl refl);
  folder = rests x.folder.faults x.folder.faults refl;
  site = rests x.site.faults x.site.faults refl;
}
  where
    still : (R : Folder → Folder → Type 0) (a : Option Folder) → ((s : Folder) → R s s) → Goes a a R
    still R None each = tt
    still R (Some s) each = each s

-- one more
pub runs_then : {T U : Type 0} (i : ℕ) (from : List ℕ) (x y z : Places) (value other : T) (last : U) → CopyStep (IsRunBelow i) from x y (Ok value) → CopyStep (IsName (full_name i)) from y z (Ok other) → CopyStep (IsRunBelow (i + 1)) from x z (Ok last)
runs_then i from x y z value other last first second =
    done_same (Either (IsRunBelow i) (IsName (full_name i))) (IsRunBelow (i + 1)) from x z other last (run_more i) (run_back i)
    (step_then (IsRunBelow i) (IsName (full_name i)) from x y z value first (Ok other) second)

pub runs_stop : {T U V : Type 0} (count i : ℕ) (from : List ℕ) (x y z : Places) (value : T) (bad : OldCopyFault) → i < count → CopyStep (IsRunBelow i) from x y (Ok value) → CopyStep {T = U} (IsName (full_name i)) from y z (Err bad) → CopyStep {T = V} (IsRunBelow count) from x z (Err bad)
runs_stop {U = U} count i from x y z value bad less first second =
    failed_wider {T = U} (Either (IsRunBelow i) (IsName (full_name i))) (IsRunBelow count) from x z bad (run_within i count less)
    (step_then (IsRunBelow i) (IsName (full_name i)) from x y z value first (Err bad) second)

-- ---- `format` last

module _ (count : ℕ) (old : Files) where
  pub way_first : (s t : Folder) → PassesCopies (IsCopiedFirst count) (Some old) s t → PassesWay count old s t
  way_first s t passes = passes_weaker (λ image. IsImage s.disk image ⊎ Between (IsCopiedFirst count) (Some old) s.disk.published image) (λ image. IsImage s.disk image ⊎ IsBeingCopied count old s.disk.published image) more s t passes
    where
      more : (image : Files) → IsImage s.disk image ⊎ Between (IsCopiedFirst count) (Some old) s.disk.published image → IsImage s.disk image ⊎ IsBeingCopied count old s.disk.published image
      more image (inl was) = inl was
      more image (inr between) = inr (inl between)

  module _ (s m : Folder) (rest : AtRest m) (has : HasCopies (IsCopiedFirst count) old s.disk.published m.disk.published) where
    -- without `format` it is as before that
    without : (image : Files) → Between (IsName format_name) (Some old) m.disk.published image → image format_name ≡ m.disk.published format_name → Between (IsCopiedFirst count) (Some old) s.disk.published image
    without image between same name = from_old (has.between name)
      where
        is_old : image name ≡ m.disk.published name
        is_old = elim (between name) [
          | inl is ↦ is
          | inr taken ↦ ap image taken.0 ∙ same ∙ sym (ap m.disk.published taken.0)
        ]

        from_old : (m.disk.published name ≡ s.disk.published name) ⊎ (IsCopiedFirst count name × (m.disk.published name ≡ old name)) → (image name ≡ s.disk.published name) ⊎ (IsCopiedFirst count name × (image name ≡ old name))
        from_old (inl was) = inl (is_old ∙ was)
        from_old (inr taken) = inr (taken.0, is_old ∙ taken.1)

    -- with it all are copied
    with_it : (image : Files) → Between (IsName format_name) (Some old) m.disk.published image → image format_name ≡ old format_name → HasCopies (IsCopied count) old s.disk.published image
    with_it image between is = record { each = each_of; between = both_between (IsCopiedFirst count) (IsName format_name) (Some old) s.disk.published m.disk.published image has.between between }
      where
        each_of : (name : List ℕ) → IsCopied count name → image name ≡ old name
        each_of name (inr named) = ap image named ∙ is ∙ sym (ap old named)
        each_of name (inl first) = elim (between name) [
          | inl same ↦ same ∙ has.each name first
          | inr taken ↦ taken.1
        ]

    pub last_between : (image : Files) → Between (IsName format_name) (Some old) m.disk.published image → IsBeingCopied count old s.disk.published image
    last_between image between = elim (between format_name) [
      | inl same ↦ inl (without image between same)
      | inr taken ↦ inr (with_it image between taken.1)
    ]

    last_image : (image : Files) → IsImage m.disk image ⊎ Between (IsName format_name) (Some old) m.disk.published image → IsImage s.disk image ⊎ IsBeingCopied count old s.disk.published image
    last_image image (inl was) =
        let is : image ≡ m.disk.published = rest_images m.disk.published image (subst (λ (d : Disk). IsImage d image) rest was) in
        inr (inl (subst (λ (f : Files). Between (IsCopiedFirst count) (Some old) s.disk.published f) (sym is) has.between))
    last_image image (inr between) = inr (last_between image between)

    pub way_then : (t : Folder) → PassesCopies (IsCopiedFirst count) (Some old) s m → PassesCopies (IsName format_name) (Some old) m t → PassesWay count old s t
    way_then t first second =
        passes_then (λ image. IsImage s.disk image ⊎ IsBeingCopied count old s.disk.published image) s m t (way_first s m first)
        (passes_weaker (λ image. IsImage m.disk image ⊎ Between (IsName format_name) (Some old) m.disk.published image) (λ image. IsImage s.disk image ⊎ IsBeingCopied count old s.disk.published image) last_image m t second)

first_named : (count : ℕ) (name : List ℕ) → IsCopiedFirst count name → IsCopied count name
first_named count name first = inl first

pub all_stop : {T U : Type 0} (count : ℕ) (from : List ℕ) (x y : Places) (bad : OldCopyFault) → CopyStep {T = T} (IsCopiedFirst count) from x y (Err bad) → CopiesAll {T = U} count from x y (Err bad)
all_stop {T = T} count from x y bad step = record {
  step = failed_wider {T = T} (IsCopiedFirst count) (IsCopied count) from x y bad (first_named count) step;
  reads = by_weaker from x.site.told x.folder.told y.folder.told (λ old. ReadsCopies (IsCopiedFirst count) (Some old)) (ReadsWay count) (as_told from x.site.told x.folder.told y.folder.told (ReadsCopies (IsCopiedFirst count)) step.reads) (λ old s t between. inl between);
  way = by_weaker from x.site.told x.folder.told y.folder.told (λ old. PassesCopies (IsCopiedFirst count) (Some old)) (PassesWay count) (as_told from x.site.told x.folder.told y.folder.told (PassesCopies (IsCopiedFirst count)) step.any_moment) (way_first count);
}

pub all_then : {T U : Type 0} (count : ℕ) (from : List ℕ) (x y z : Places) (value : T) (result : Result U OldCopyFault) → CopyStep (IsCopiedFirst count) from x y (Ok value) → CopyStep (IsName format_name) from y z result → CopiesAll count from x z result
all_then count from x y z value result first second = record {
  step = step_then (IsCopiedFirst count) (IsName format_name) from x y z value first result second;
  reads = by_then from x.site.told y.site.told x.folder.told y.folder.told z.folder.told first.same first.rest (Copies (IsCopiedFirst count)) (λ old. ReadsCopies (IsName format_name) (Some old)) (ReadsWay count) first.copied (as_told from y.site.told y.folder.told z.folder.told (ReadsCopies (IsName format_name)) second.reads)
      (λ old s m t rest p q. last_between count old s m rest p.has t.disk.published q);
  way = by_then from x.site.told y.site.told x.folder.told y.folder.told z.folder.told first.same first.rest (λ old s m. Copies (IsCopiedFirst count) old s m × PassesCopies (IsCopiedFirst count) (Some old) s m) (λ old. PassesCopies (IsName format_name) (Some old)) (PassesWay count)
      (pair_by x.site.told first.copied (as_told from x.site.told x.folder.told y.folder.told (PassesCopies (IsCopiedFirst count)) first.any_moment)) (as_told from y.site.told y.folder.told z.folder.told (PassesCopies (IsName format_name)) second.any_moment)
      (λ old s m t rest p q. way_then count old s m rest p.0.has t p.1 q);
}
  where
    pair_by : (w : Option Files) → IfSome w (λ files. Goes x.folder.told y.folder.told (Copies (IsCopiedFirst count) (folder_in from files))) → IfSome w (λ files. Goes x.folder.told y.folder.told (PassesCopies (IsCopiedFirst count) (Some (folder_in from files)))) → IfSome w (λ files. Goes x.folder.told y.folder.told (λ s m. Copies (IsCopiedFirst count) (folder_in from files) s m × PassesCopies (IsCopiedFirst count) (Some (folder_in from files)) s m))
    pair_by None one two = tt
    pair_by (Some files) one two = goes_both x.folder.told y.folder.told (Copies (IsCopiedFirst count) (folder_in from files)) (PassesCopies (IsCopiedFirst count) (Some (folder_in from files))) one two

-- ---- the looks before

-- what stands beside the files, on the way
abbrev TakingBeside : Files → Files → Files → Type 0
TakingBeside old files image = (count : ℕ) × IsOldFolder count old × IsBeingCopied count old files image

way_beside : (count : ℕ) (old : Files) → IsOldFolder count old → (m t : Folder) → PassesWay count old m t → Passes (λ image. IsImage m.disk image ⊎ TakingBeside old m.disk.published image) m t
way_beside count old is m t passes = passes_weaker (λ image. IsImage m.disk image ⊎ IsBeingCopied count old m.disk.published image) (λ image. IsImage m.disk image ⊎ TakingBeside old m.disk.published image) more m t passes
  where
    more : (image : Files) → IsImage m.disk image ⊎ IsBeingCopied count old m.disk.published image → IsImage m.disk image ⊎ TakingBeside old m.disk.published image
    more image (inl was) = inl was
    more image (inr way) = inr (count, is, way)

-- the same of a stop at each moment
abbrev PassesBeside : Files → Folder → Folder → Type 0
PassesBeside old s t = Passes (λ image. IsImage s.disk image ⊎ TakingBeside old s.disk.published image) s t

old_moments : (old : Files) (s t : Folder) → PassesOld s t → PassesBeside old s t
old_moments old s t passes = passes_weaker (IsImage s.disk) (λ image. IsImage s.disk image ⊎ TakingBeside old s.disk.published image) (λ image was. inl was) s t passes

-- what stands beside the files, where nothing is told of the other folder
abbrev UntoldBeside : Files → Files → Type 0
UntoldBeside files image = (count : ℕ) × Between (IsCopied count) None files image

abbrev PassesUntold : Folder → Folder → Type 0
PassesUntold s t = Passes (λ image. IsImage s.disk image ⊎ UntoldBeside s.disk.published image) s t

old_untold : (s t : Folder) → PassesOld s t → PassesUntold s t
old_untold s t passes = passes_weaker (IsImage s.disk) (λ image. IsImage s.disk image ⊎ UntoldBeside s.disk.published image) (λ image was. inl was) s t passes

copies_untold : (count : ℕ) (told : Option Files) (s t : Folder) → PassesCopies (IsCopied count) told s t → PassesUntold s t
copies_untold count told s t passes = passes_weaker (λ image. IsImage s.disk image ⊎ Between (IsCopied count) told s.disk.published image) (λ image. IsImage s.disk image ⊎ UntoldBeside s.disk.published image) more s t passes
  where
    more : (image : Files) → IsImage s.disk image ⊎ Between (IsCopied count) told s.disk.published image → IsImage s.disk image ⊎ UntoldBeside s.disk.published image
    more image (inl was) = inl was
    more image (inr between) = inr (count, between_untold (IsCopied count) told s.disk.published image between)

-- by what is told of it
taking : (from : List ℕ) (w : Option Files) (a b : Option Folder) → IfSome w (λ files. Goes a b (PassesBeside (folder_in from files))) → Goes a b PassesUntold → Goes a b (PassesTaking from w)
taking from None a b told untold = untold
taking from (Some files) a b told untold = told

settled_reads : (s t : Folder) → Settled s t → SameReads s t
settled_reads s t is = ap (λ (f : Folder). f.disk.published) is

failed_reads : (which : ShelfCall) (s t : Folder) → FailsAt which s t → SameReads s t
failed_reads call.SyncFolder s t fails = ap (λ (f : Folder). f.disk.published) fails
failed_reads call.Names s t fails = settled_reads s t fails
failed_reads call.Length s t fails = settled_reads s t fails
failed_reads call.ReadAt s t fails = settled_reads s t fails
failed_reads call.StartDraft s t fails = absurd fails
failed_reads call.Append s t fails = absurd fails
failed_reads call.SyncDraft s t fails = absurd fails
failed_reads call.Publish s t fails = absurd fails

here_fails : (old : Files) (bad : OldCopyFault) (s t : Folder) → HereFails bad s t → CopyFails old bad s t
here_fails old fault.Here s t fails = (fails.0, settled_reads s t fails.1)
here_fails old fault.OldHere s t fails = (fails.0, settled_reads s t fails.1)
here_fails old fault.StrangeHere s t fails = (fails.0, settled_reads s t fails.1)
here_fails old (fault.Shelf which) s t fails = inl (failed_reads which s t fails)
here_fails old fault.NoMemory s t fails = inl (settled_reads s t fails)
here_fails old fault.NoStore s t fails = absurd fails
here_fails old fault.NotOld s t fails = absurd fails
here_fails old fault.UnknownFormat s t fails = absurd fails
here_fails old fault.BadCount s t fails = absurd fails
here_fails old fault.OtherFiles s t fails = absurd fails
here_fails old fault.Site s t fails = absurd fails

-- behind the look here, as long as nothing was copied
module _ (old : Files) (s t : Folder) (free : IsFree s t) where
  there_fails : (bad : OldCopyFault) → CopyLookFails old bad → CopyFails old bad s t
  there_fails fault.NoStore fails = (free.none, fails, settled_reads s t free.settled)
  there_fails fault.NotOld fails = (free.none, fails, settled_reads s t free.settled)
  there_fails fault.UnknownFormat fails = (free.none, fails, settled_reads s t free.settled)
  there_fails fault.BadCount fails = (free.none, fails, settled_reads s t free.settled)
  there_fails fault.Site fails = (free.none, inl (settled_reads s t free.settled))
  there_fails fault.NoMemory fails = inl (settled_reads s t free.settled)
  there_fails fault.Here fails = absurd fails
  there_fails fault.OldHere fails = absurd fails
  there_fails fault.StrangeHere fails = absurd fails
  there_fails fault.OtherFiles fails = absurd fails
  there_fails (fault.Shelf which) fails = absurd fails

  names_fail : (count : ℕ) → IsOldFolder count old → (bad : OldCopyFault) → CopyNamesFail count bad t → CopyFails old bad s t
  names_fail count is_old fault.OtherFiles fails = (
    free.none,
    record {
      count = count;
      is_old = is_old;
      name = fails.name;
      short = fails.short;
      there = subst IsSome (ap (λ (f : Folder). f.disk.published fails.name) free.settled) fails.there;
      other = λ first. absurd (fails.other first);
    },
    inl (settled_reads s t free.settled),
  )
  names_fail count is_old (fault.Shelf which) fails = inl (settled_reads s t free.settled)
  names_fail count is_old fault.NoMemory fails = inl (settled_reads s t free.settled)
  names_fail count is_old fault.Here fails = absurd fails
  names_fail count is_old fault.OldHere fails = absurd fails
  names_fail count is_old fault.StrangeHere fails = absurd fails
  names_fail count is_old fault.NoStore fails = absurd fails
  names_fail count is_old fault.NotOld fails = absurd fails
  names_fail count is_old fault.UnknownFormat fails = absurd fails
  names_fail count is_old fault.BadCount fails = absurd fails
  names_fail count is_old fault.Site fails = absurd fails

other_files : (count : ℕ) (old files : Files) → count ≤ most_runs → IsOldFolder count old → files format_name ≡ None → HoldsOther (IsCopied count) old files → HasOtherFiles old files
other_files count old files few is_old none holds = record { count = count; is_old = is_old; name = holds.name; short = copied_is_text count holds.name few holds.named; there = holds.there; other = λ first. holds.other }

step_fails : (count : ℕ) (old : Files) (s t : Folder) → count ≤ most_runs → IsOldFolder count old → s.disk.published format_name ≡ None → ReadsWay count old s t → (bad : OldCopyFault) → StepFails (IsCopied count) old s.disk.published bad → CopyFails old bad s t
step_fails count old s t few is_old none way fault.OtherFiles fails = (none, other_files count old s.disk.published few is_old none fails, inr (count, is_old, way))
step_fails count old s t few is_old none way fault.Site fails = (none, inr (count, is_old, way))
step_fails count old s t few is_old none way (fault.Shelf which) fails = inr (count, is_old, way)
step_fails count old s t few is_old none way fault.NoMemory fails = inr (count, is_old, way)
step_fails count old s t few is_old none way fault.Here fails = absurd fails
step_fails count old s t few is_old none way fault.OldHere fails = absurd fails
step_fails count old s t few is_old none way fault.StrangeHere fails = absurd fails
step_fails count old s t few is_old none way fault.NoStore fails = absurd fails
step_fails count old s t few is_old none way fault.NotOld fails = absurd fails
step_fails count old s t few is_old none way fault.UnknownFormat fails = absurd fails
step_fails count old s t few is_old none way fault.BadCount fails = absurd fails

-- ---- the whole

-- the folder here is not free
pub stops_here : (from : List ℕ) (f g : Seen Folder) (w : Seen Files) (bad : OldCopyFault) → Goes f.told g.told (HereFails bad) → Goes f.told g.told PassesOld → RisesExactlyIf f.faults g.faults (folder_failed {T = Unit {0}} (Err bad)) → site_failed {T = Unit {0}} (Err bad) ≡ false → CopiesOld from (places f w) (places g w) (Err bad)
stops_here from f g w bad fails passes count quiet = record {
  same = refl;
  copied = tt;
  refused = told_or_not from w.told f.told g.told (λ old. CopyFails old bad) (λ old. goes_weaker f.told g.told (HereFails bad) (CopyFails old bad) fails (here_fails old bad));
  any_moment = taking from w.told f.told g.told (told_or_not from w.told f.told g.told PassesBeside (λ old. goes_weaker f.told g.told PassesOld (PassesBeside old) passes (old_moments old))) (goes_weaker f.told g.told PassesOld PassesUntold passes old_untold);
  folder = count;
  site = subst (RisesExactlyIf w.faults w.faults) (sym quiet) (rests w.faults w.faults refl);
}

-- behind the look here
module _ (from : List ℕ) (f g : Seen Folder) (w v : Seen Files) (counts : IfSome f.told (λ s. IsImage s.disk s.disk.published)) (free : Goes f.told g.told IsFree) (same : v.told ≡ w.told) where
  settled : Goes f.told g.told Settled
  settled = goes_weaker f.told g.told IsFree Settled free (λ s t is. is.settled)

  pub rests_free : IfSome g.told AtRest
  rests_free = some_after f.told g.told IsFree AtRest free (λ s t is. ap (λ (u : Folder). u.disk) is.settled ∙ ap at_rest (sym (ap (λ (u : Folder). u.disk.published) is.settled)))

  -- the other folder is none of the original tool
  pub stops_there : (bad : OldCopyFault) → IfSome w.told (λ files. CopyLookFails (folder_in from files) bad) → RisesExactlyIf f.faults g.faults false → folder_failed {T = Unit {0}} (Err bad) ≡ false → RisesExactlyIf w.faults v.faults (site_failed {T = Unit {0}} (Err bad)) → CopiesOld from (places f w) (places g v) (Err bad)
  stops_there bad fails folder quiet site = record {
    same = same;
    copied = tt;
    refused = by_known from w.told (λ old. CopyLookFails old bad) f.told g.told (λ old. CopyFails old bad) fails (λ old is. goes_weaker f.told g.told IsFree (CopyFails old bad) free (λ s t p. there_fails old s t p bad is));
    any_moment = taking from w.told f.told g.told (told_or_not from w.told f.told g.told PassesBeside (λ old. goes_beside f.told g.told counts settled (TakingBeside old))) (goes_beside f.told g.told counts settled UntoldBeside);
    folder = subst (RisesExactlyIf f.faults g.faults) (sym quiet) folder;
    site = site;
  }

  -- and behind that there
  module _ (h : Seen Folder) (count : ℕ) (is_old : IfSome w.told (λ files. IsOldFolder count (folder_in from files))) (stays : Goes g.told h.told Stays) where
    settled_all : Goes f.told h.told Settled
    settled_all = settled_stays f.told g.told counts settled h.told stays

    free_all : Goes f.told h.told IsFree
    free_all = goes_then f.told g.told h.told IsFree Stays IsFree free stays (λ s m t is p. record { none = is.none; settled = p ∙ is.settled })

    pub rests_all : IfSome h.told AtRest
    rests_all = some_after f.told h.told IsFree AtRest free_all (λ s t is. ap (λ (u : Folder). u.disk) is.settled ∙ ap at_rest (sym (ap (λ (u : Folder). u.disk.published) is.settled)))

    -- other files stand here
    pub stops_at_names : (bad : OldCopyFault) → IfSome g.told (CopyNamesFail count bad) → RisesExactlyIf f.faults h.faults (folder_failed {T = Unit {0}} (Err bad)) → site_failed {T = Unit {0}} (Err bad) ≡ false → RisesExactlyIf w.faults v.faults false → CopiesOld from (places f w) (places h v) (Err bad)
    stops_at_names bad fails folder quiet site = record {
      same = same;
      copied = tt;
      refused = by_known from w.told (IsOldFolder count) f.told h.told (λ old. CopyFails old bad) is_old (λ old is. goes_then f.told g.told h.told IsFree (λ m t. CopyNamesFail count bad m × Stays m t) (CopyFails old bad) free (goes_with g.told h.told (CopyNamesFail count bad) Stays fails stays) (λ s m t p q. subst (λ (u : Folder). CopyFails old bad s u) (sym q.1) (names_fail old s m p count is bad q.0)));
      any_moment = taking from w.told f.told h.told (told_or_not from w.told f.told h.told PassesBeside (λ old. goes_beside f.told h.told counts settled_all (TakingBeside old))) (goes_beside f.told h.told counts settled_all UntoldBeside);
      folder = folder;
      site = subst (RisesExactlyIf w.faults v.faults) (sym quiet) site;
    }

    -- the copies
    module _ (i : Seen Folder) (u : Seen Files) (alone : IfSome g.told (HoldsNoOther count)) (folder : RisesExactlyIf f.faults h.faults false) (site : RisesExactlyIf w.faults v.faults false) where
      moments_by : (o : Option Files) → IfSome o (λ files. IsOldFolder count (folder_in from files)) → IfSome o (λ files. Goes h.told i.told (PassesWay count (folder_in from files))) → IfSome o (λ files. Goes f.told i.told (PassesBeside (folder_in from files)))
      moments_by None is way = tt
      moments_by (Some files) is way = goes_after f.told h.told counts settled_all i.told (TakingBeside (folder_in from files)) (goes_weaker h.told i.told (PassesWay count (folder_in from files)) (λ m t. Passes (λ image. IsImage m.disk image ⊎ TakingBeside (folder_in from files) m.disk.published image) m t) way (way_beside count (folder_in from files) is))

      untold : (told : Option Files) → Goes h.told i.told (PassesCopies (IsCopied count) told) → Goes f.told i.told PassesUntold
      untold told passes = goes_after f.told h.told counts settled_all i.told UntoldBeside (goes_weaker h.told i.told (PassesCopies (IsCopied count) told) PassesUntold passes (copies_untold count told))

      by_first : (Q : Files → Type 0) → IfSome v.told Q → IfSome w.told Q
      by_first Q known = subst (λ (o : Option Files). IfSome o Q) same known

      module _ (s m t : Folder) (old : Files) (is : IsOldFolder count old) (p : IsFree s m) where
        published : m.disk.published ≡ s.disk.published
        published = ap (λ (k : Folder). k.disk.published) p.settled

        takes_files : HoldsNoOther count m → AtRest t → Copies (IsCopied count) old m t → TakesFiles old s t
        takes_files none rest copied = record {
          count = count;
          is_old = is;
          free = p.none;
          alone = λ name text some. none name text (subst IsSome (sym (ap (λ (files : Files). files name) published)) some);
          rest = rest;
          copied = record {
            has = subst (λ (files : Files). HasCopies (IsCopied count) old files t.disk.published) published copied.has;
            stood = subst (HoldsOnlyCopies (IsCopied count) old) published copied.stood;
          };
        }

        fails_files : count ≤ most_runs → (bad : OldCopyFault) → StepFails (IsCopied count) old m.disk.published bad → ReadsWay count old m t → CopyFails old bad s t
        fails_files few bad fails way =
            step_fails count old s t few is p.none (subst (λ (files : Files). IsBeingCopied count old files t.disk.published) published way) bad (subst (λ (files : Files). StepFails (IsCopied count) old files bad) published fails)

      alone_all : IfSome h.told (HoldsNoOther count)
      alone_all = stays_some_of g.told h.told alone stays
        where
          stays_some_of : (a b : Option Folder) → IfSome a (HoldsNoOther count) → Goes a b Stays → IfSome b (HoldsNoOther count)
          stays_some_of a b known step = some_after a b (λ s t. HoldsNoOther count s × Stays s t) (HoldsNoOther count) (goes_with a b (HoldsNoOther count) Stays known step) (λ s t both. subst (HoldsNoOther count) (sym both.1) both.0)

      pub takes_all : (value : Unit {0}) → CopiesAll count from (places h v) (places i u) (Ok value) → CopiesOld from (places f w) (places i u) (Ok value)
      takes_all value all = record {
        same = all.step.same ∙ same;
        copied = by_known_too w.told is_old (by_first (λ files. Goes h.told i.told (Copies (IsCopied count) (folder_in from files))) all.step.copied);
        refused = tt;
        any_moment = taking from w.told f.told i.told (moments_by w.told is_old (by_first (λ files. Goes h.told i.told (PassesWay count (folder_in from files))) all.way)) (untold (told_in from v.told) all.step.any_moment);
        folder = counts_then f.faults h.faults i.faults false folder all.step.folder;
        site = counts_then w.faults v.faults u.faults false site all.step.site;
      }
        where
          by_known_too : (o : Option Files) → IfSome o (λ files. IsOldFolder count (folder_in from files)) → IfSome o (λ files. Goes h.told i.told (Copies (IsCopied count) (folder_in from files))) → IfSome o (λ files. Goes f.told i.told (TakesFiles (folder_in from files)))
          by_known_too None is copied = tt
          by_known_too (Some files) is copied =
              let old : Files = folder_in from files in
              goes_then f.told h.told i.told IsFree (λ m t. (HoldsNoOther count m × AtRest t) × Copies (IsCopied count) old m t) (TakesFiles old) free_all
              (goes_from h.told i.told (HoldsNoOther count) (λ m t. AtRest t × Copies (IsCopied count) old m t) (λ m t. (HoldsNoOther count m × AtRest t) × Copies (IsCopied count) old m t) alone_all (goes_to h.told i.told (Copies (IsCopied count) old) AtRest all.step.rest copied) (λ m t here both. ((here, both.0), both.1)))
              (λ s m t p q. takes_files s m t old is p q.0.0 q.0.1 q.1)

      pub stops_all : count ≤ most_runs → (bad : OldCopyFault) → CopiesAll {T = Unit {0}} count from (places h v) (places i u) (Err bad) → CopiesOld from (places f w) (places i u) (Err bad)
      stops_all few bad all = record {
        same = all.step.same ∙ same;
        copied = tt;
        refused = by_refused w.told is_old (by_first (λ files. Goes h.told i.told (λ m t. StepFails (IsCopied count) (folder_in from files) m.disk.published bad)) all.step.refused) (by_first (λ files. Goes h.told i.told (ReadsWay count (folder_in from files))) all.reads);
        any_moment = taking from w.told f.told i.told (moments_by w.told is_old (by_first (λ files. Goes h.told i.told (PassesWay count (folder_in from files))) all.way)) (untold (told_in from v.told) all.step.any_moment);
        folder = counts_then f.faults h.faults i.faults _ folder all.step.folder;
        site = counts_then w.faults v.faults u.faults _ site all.step.site;
      }
        where
          by_refused : (o : Option Files) → IfSome o (λ files. IsOldFolder count (folder_in from files)) → IfSome o (λ files. Goes h.told i.told (λ m t. StepFails (IsCopied count) (folder_in from files) m.disk.published bad)) → IfSome o (λ files. Goes h.told i.told (ReadsWay count (folder_in from files))) → IfSome o (λ files. Goes f.told i.told (CopyFails (folder_in from files) bad))
          by_refused None is fails way = tt
          by_refused (Some files) is fails way =
              let old : Files = folder_in from files in
              let Fails : Folder → Folder → Type 0 = λ m t. StepFails (IsCopied count) old m.disk.published bad in
              goes_then f.told h.told i.told IsFree (λ m t. Fails m t × ReadsWay count old m t) (CopyFails old bad) free_all (goes_both h.told i.told Fails (ReadsWay count old) fails way) (λ s m t p q. fails_files s m t old is p few bad q.0 q.1)

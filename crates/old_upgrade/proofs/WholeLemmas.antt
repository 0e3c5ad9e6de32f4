-- The whole of an upgrade.
use Rattle.std.proofs.Common.{◌≡◌, ◌⊎◌, inl, inr, ℕ, ◌<◌, List, length, Option, Some, None, IfSome, IsSomeAnd, Err, refl, sym, ap, ◌∙◌, subst, arith}
use Rattle.edge_io.specs.Disk.{Files, put, Disk, Folder, IsImage, at_rest}
use Rattle.edge_io.specs.Steps.{Goes, Stays, Settled}
use Rattle.edge_io.proofs.Going.{goes_then, goes_from, goes_weaker}
use Rattle.edge_io.proofs.Passing.{passes_then, passes_weaker}
use Rattle.run_shelf.specs.declared.faults.ShelfCall.{ShelfCall}
use Rattle.run_shelf.specs.declared.faults.ShelfCall.TheVariants as call
use Rattle.run_shelf.specs.Adoption.{IsConverted as StandConverted, IsReadyToAdopt, SameButNew, PassesNew, PassesAdoption, Adopts, HasBaseOrNot, AdoptFails, IsAdopted, IsBeingAdopted}
use Rattle.run_shelf.specs.Bases.{Base, base_name, base_in}
use Rattle.run_shelf.specs.Images.{AtRest, PassesOld}
use Rattle.run_shelf.specs.Outcomes.{FailsAt}
use Rattle.run_shelf.specs.Repository.{full_name, format_name, based_format_bytes}
use Rattle.run_shelf.proofs.Joining.{rest_images, published_after, rests_after, passes_after}
use Rattle.run_shelf.proofs.OldLemmas.{base_put, new_then}
use Rattle.run_shelf.proofs.ReadingLemmas.{same_state}
use Rattle.old_folder.specs.Converting.{StaysOld}
use Rattle.old_folder.specs.Looking.{SurveysOld, OldSurveyFails, old_failed}
use Rattle.old_folder.specs.Olds.{failing_name, IsOldWith}
use Rattle.old_folder.specs.declared.faults.OldFault.{OldFault}
use Rattle.old_folder.specs.declared.faults.OldFault.TheVariants as old
use Rattle.old_folder.proofs.OldLemmas.{all_converted, upgraded, stays, failing_still}
use Rattle.old_runs.specs.Files.{IsDamaged}
use Rattle.old_upgrade.specs.declared.faults.UpgradeFault.{UpgradeFault}
use Rattle.old_upgrade.specs.declared.faults.UpgradeFault.TheVariants.{NoStore, NotOld, UnknownFormat, BadCount, BadRun, BadFailing, Shelf, NoMemory}
use Rattle.old_upgrade.specs.Recording.{HasConvertedTo, IsFoundOld, AllFail, FailedLast, FailingFails, FoundFailsAt, FoundFails, fault_of_look}
use Rattle.old_upgrade.specs.Upgrading.{upgrade_failed, AreFailing, BecomesRepository, BecomesOne, Upgrades, IsEither, PassesUpgrade, HasBadRun, HasBadFailing, StaysOrNot, KeepsOrUpgrades, UpgradeFailsAt, UpgradeFails}
use Rattle.old_upgrade.proofs.RunLemmas.{whole_run}

-- ---- behind the look

-- still a folder of the original tool, at whichever call
stays_at : (which : ShelfCall) (s t : Folder) → StaysOld s.disk.published t.disk.published → FoundFailsAt which s t
stays_at call.Names s t stay = stay
stays_at call.Length s t stay = stay
stays_at call.ReadAt s t stay = stay
stays_at call.StartDraft s t stay = stay
stays_at call.Append s t stay = stay
stays_at call.SyncDraft s t stay = stay
stays_at call.Publish s t stay = inl stay
stays_at call.SyncFolder s t stay = inl stay

module _ (count : ℕ) (s : Folder) (found : IsFoundOld count s) where
  new_stays : (image : Files) → SameButNew count s.disk.published image → StaysOld s.disk.published image
  new_stays image new = stays count s.disk.published image found.old new

  either_left : (image : Files) → IsImage s.disk image ⊎ SameButNew count s.disk.published image → IsImage s.disk image ⊎ IsEither s.disk.published image
  either_left image (inl left) = inl left
  either_left image (inr new) = inr (inl (new_stays image new))

  pub passes_either : (t : Folder) → PassesNew count s t → PassesUpgrade s t
  passes_either t passes =
      passes_weaker (λ image. IsImage s.disk image ⊎ SameButNew count s.disk.published image) (λ image. IsImage s.disk image ⊎ IsEither s.disk.published image) either_left s t passes

  -- all runs stand converted
  module _ (m : Folder) (has : HasConvertedTo count s m) where
    but_new : SameButNew count s.disk.published m.disk.published
    but_new = subst (λ (n : ℕ). SameButNew n s.disk.published m.disk.published) has.counted has.converts.has.but

    counted_old : IsOldWith (length has.runs) s.disk.published
    counted_old = subst (λ (n : ℕ). IsOldWith n s.disk.published) (sym has.counted) found.old

    pub ready : IsReadyToAdopt count m
    ready = record {
      rest = has.converts.rest;
      converted = subst (λ (n : ℕ). StandConverted n m.disk.published) has.counted (all_converted has.runs s.disk.published m.disk.published counted_old has.converts.has);
    }

    pub still_stays : StaysOld s.disk.published m.disk.published
    still_stays = new_stays m.disk.published but_new

    failing_same : m.disk.published failing_name ≡ s.disk.published failing_name
    failing_same = failing_still count s.disk.published m.disk.published found.old.counted.few but_new

    no_run_damaged : (number : ℕ) (bytes : List ℕ) → number < count → s.disk.published (full_name number) ≡ Some bytes → IsDamaged bytes → ⊥
    no_run_damaged number bytes less there damaged = whole_run s.disk.published has.runs number bytes (omega (arith, less, has.counted)) has.are there damaged

    pub failing_fails : (fault : UpgradeFault) → FailingFails fault m → FoundFails fault s m
    failing_fails NoStore fails = absurd fails
    failing_fails NotOld fails = absurd fails
    failing_fails UnknownFormat fails = absurd fails
    failing_fails BadCount fails = absurd fails
    failing_fails (BadRun number) fails = absurd fails
    failing_fails BadFailing fails = (
      record { count = count; old = found.old; runs = no_run_damaged; damaged = subst (λ (o : Option (List ℕ)). IsSomeAnd o IsDamaged) failing_same fails },
      still_stays,
    )
    failing_fails (Shelf which) fails = stays_at which s m still_stays
    failing_fails NoMemory fails = still_stays

    -- and the base is told
    module _ (bytes : List ℕ) (ids : List (List ℕ)) (tells : base_in bytes ≡ record { count = count; ids = ids }) (last : FailedLast ids m) where
      becomes : (image : Files) → IsAdopted bytes m.disk.published image → BecomesRepository count s.disk.published image
      becomes image adopted = record {
        runs = has.runs;
        counted = has.counted;
        are = has.are;
        ids = ids;
        failing = subst (λ (o : Option (List ℕ)). AreFailing o ids) failing_same last;
        upgraded =
            upgraded has.runs s.disk.published m.disk.published counted_old has.converts.has ids bytes image
            (tells ∙ ap (λ (n : ℕ). record { count = n; ids = ids }) (sym has.counted)) adopted;
      }

      base_stays : (image : Files) → image ≡ put m.disk.published base_name bytes → StaysOld s.disk.published image
      base_stays image is =
          new_stays image
          (new_then count s.disk.published m.disk.published image but_new (subst (λ (f : Files). SameButNew count m.disk.published f) (sym is) (base_put count m.disk.published bytes)))

      on_the_way : (image : Files) → IsBeingAdopted bytes m.disk.published image → IsEither s.disk.published image
      on_the_way image (inl is) = inl (base_stays image is)
      on_the_way image (inr adopted) = inr (count, becomes image adopted)

      left_there : (image : Files) → IsImage m.disk image → StaysOld s.disk.published image
      left_there image left =
          subst (λ (f : Files). StaysOld s.disk.published f) (sym (rest_images m.disk.published image (subst (λ (d : Disk). IsImage d image) has.converts.rest left))) still_stays

      adopting_left : (image : Files) → IsImage m.disk image ⊎ IsBeingAdopted bytes m.disk.published image → IsImage s.disk image ⊎ IsEither s.disk.published image
      adopting_left image (inl left) = inr (inl (left_there image left))
      adopting_left image (inr way) = inr (on_the_way image way)

      module _ (t : Folder) where
        pub adopts : Adopts bytes m t → Upgrades count s t
        adopts step =
            let published : t.disk.published ≡ put (put m.disk.published base_name bytes) format_name based_format_bytes = ap (λ (d : Disk). d.published) step.disk in
            let rest : AtRest t = step.disk ∙ ap at_rest (sym published) in
            record {
              rest = rest;
              is = becomes t.disk.published (step.lasts t.disk.published (inl (ap (λ (d : Disk). d.published) rest ∙ sym (ap (λ (d : Disk). d.stable) rest))));
            }

        same_stays : t.disk.published ≡ m.disk.published → StaysOld s.disk.published t.disk.published
        same_stays same = subst (λ (f : Files). StaysOld s.disk.published f) (sym same) still_stays

        base_or_not : HasBaseOrNot bytes m t → StaysOld s.disk.published t.disk.published
        base_or_not (inl same) = same_stays same
        base_or_not (inr is) = base_stays t.disk.published is

        pub adopt_fails : (which : ShelfCall) → AdoptFails bytes which m t → FoundFailsAt which s t
        adopt_fails call.Names fails = absurd fails
        adopt_fails call.Length fails = absurd fails
        adopt_fails call.ReadAt fails = absurd fails
        adopt_fails call.StartDraft fails = base_or_not fails
        adopt_fails call.Append fails = base_or_not fails
        adopt_fails call.SyncDraft fails = base_or_not fails
        adopt_fails call.Publish (inl same) = inl (same_stays same)
        adopt_fails call.Publish (inr way) = on_the_way t.disk.published way
        adopt_fails call.SyncFolder fails = on_the_way t.disk.published fails

        pub adopt_passes : PassesAdoption bytes m t → PassesUpgrade s t
        adopt_passes passes =
            passes_then (λ image. IsImage s.disk image ⊎ IsEither s.disk.published image) s m t
            (passes_either m (subst (λ (n : ℕ). PassesNew n s m) has.counted has.converts.passed))
            (passes_weaker (λ image. IsImage m.disk image ⊎ IsBeingAdopted bytes m.disk.published image) (λ image. IsImage s.disk image ⊎ IsEither s.disk.published image) adopting_left m t passes)

-- why not all runs were converted
pub all_found_fails : (fault : UpgradeFault) (s t : Folder) → AllFail fault s t → FoundFails fault s t
all_found_fails NoStore s t fails = absurd fails
all_found_fails NotOld s t fails = absurd fails
all_found_fails UnknownFormat s t fails = absurd fails
all_found_fails BadCount s t fails = absurd fails
all_found_fails (BadRun number) s t fails = fails
all_found_fails BadFailing s t fails = absurd fails
all_found_fails (Shelf which) s t fails = stays_at which s t fails
all_found_fails NoMemory s t fails = fails

-- where the folder is told or not
module _ (count : ℕ) (a : Option Folder) (found : IfSome a (IsFoundOld count)) where
  pub goes_all_found_fails : (fault : UpgradeFault) (b : Option Folder) → Goes a b (AllFail fault) → Goes a b (FoundFails fault)
  goes_all_found_fails fault b fails = goes_weaker a b (AllFail fault) (FoundFails fault) fails (all_found_fails fault)

  pub goes_new_passes : (b : Option Folder) → Goes a b (PassesNew count) → Goes a b PassesUpgrade
  goes_new_passes b passes = goes_from a b (IsFoundOld count) (PassesNew count) PassesUpgrade found passes (λ s t p q. passes_either count s p t q)

  module _ (b : Option Folder) (has : Goes a b (HasConvertedTo count)) where
    abbrev Known : Folder → Folder → Type 0
    Known s m = IsFoundOld count s × HasConvertedTo count s m

    known : Goes a b Known
    known = goes_from a b (IsFoundOld count) (HasConvertedTo count) Known found has (λ s t p q. (p, q))

    pub goes_stays : Goes a b (λ s t. StaysOld s.disk.published t.disk.published)
    goes_stays = goes_weaker a b Known (λ s t. StaysOld s.disk.published t.disk.published) known (λ s t p. still_stays count s p.0 t p.1)

    pub goes_converted_passes : Goes a b PassesUpgrade
    goes_converted_passes = goes_weaker a b Known PassesUpgrade known (λ s t p. passes_either count s p.0 t (subst (λ (n : ℕ). PassesNew n s t) p.1.counted p.1.converts.passed))

    pub some_ready : IfSome b (IsReadyToAdopt count)
    some_ready = by a b known
      where
        by : (a b : Option Folder) → Goes a b Known → IfSome b (IsReadyToAdopt count)
        by None None p = tt
        by None (Some t) p = absurd p
        by (Some s) None p = absurd p
        by (Some s) (Some t) p = ready count s p.0 t p.1

    pub goes_failing_fails : (fault : UpgradeFault) → IfSome b (FailingFails fault) → Goes a b (FoundFails fault)
    goes_failing_fails fault fails = by a b known fails
      where
        by : (a b : Option Folder) → Goes a b Known → IfSome b (FailingFails fault) → Goes a b (FoundFails fault)
        by None None p q = tt
        by None (Some t) p q = absurd p
        by (Some s) None p q = absurd p
        by (Some s) (Some t) p q = failing_fails count s p.0 t p.1 fault q

    module _ (bytes : List ℕ) (ids : List (List ℕ)) (tells : base_in bytes ≡ record { count = count; ids = ids }) (last : IfSome b (FailedLast ids)) (c : Option Folder) where
      abbrev Known_too : Folder → Folder → Type 0
      Known_too s m = Known s m × FailedLast ids m

      known_too : Goes a b Known_too
      known_too = by a b known last
        where
          by : (a b : Option Folder) → Goes a b Known → IfSome b (FailedLast ids) → Goes a b Known_too
          by None None p q = tt
          by None (Some t) p q = absurd p
          by (Some s) None p q = absurd p
          by (Some s) (Some t) p q = (p, q)

      pub goes_upgrades : Goes b c (Adopts bytes) → Goes a c (Upgrades count)
      goes_upgrades step = goes_then a b c Known_too (Adopts bytes) (Upgrades count) known_too step (λ s m t p q. adopts count s p.0.0 m p.0.1 bytes ids tells p.1 t q)

      pub goes_adopt_fails : (which : ShelfCall) → Goes b c (AdoptFails bytes which) → Goes a c (FoundFails (Shelf which))
      goes_adopt_fails which step = goes_then a b c Known_too (AdoptFails bytes which) (FoundFails (Shelf which)) known_too step (λ s m t p q. adopt_fails count s p.0.0 m p.0.1 bytes ids tells p.1 t which q)

      pub goes_adopt_passes : Goes b c (PassesAdoption bytes) → Goes a c PassesUpgrade
      goes_adopt_passes step = goes_then a b c Known_too (PassesAdoption bytes) PassesUpgrade known_too step (λ s m t p q. adopt_passes count s p.0.0 m p.0.1 bytes ids tells p.1 t q)

-- ---- with the look

settled_published : (s t : Folder) → Settled s t → t.disk.published ≡ s.disk.published
settled_published s t is = ap (λ (f : Folder). f.disk.published) is

look_shelf : (which : ShelfCall) (s t : Folder) → FailsAt which s t → UpgradeFailsAt which s t
look_shelf call.SyncFolder s t fails = inl (inl (ap (λ (f : Folder). f.disk.published) fails))
look_shelf call.Names s t fails = inl (settled_published s t fails)
look_shelf call.Length s t fails = inl (settled_published s t fails)
look_shelf call.ReadAt s t fails = inl (settled_published s t fails)
look_shelf call.StartDraft s t fails = absurd fails
look_shelf call.Append s t fails = absurd fails
look_shelf call.SyncDraft s t fails = absurd fails
look_shelf call.Publish s t fails = absurd fails

pub look_fails : (fault : OldFault) (s t : Folder) → OldSurveyFails fault s t → UpgradeFails (fault_of_look fault) s t
look_fails old.NoStore s t fails = fails
look_fails old.NotOld s t fails = fails
look_fails old.UnknownFormat s t fails = fails
look_fails old.BadCount s t fails = fails
look_fails (old.Shelf which) s t fails = look_shelf which s t fails
look_fails old.NoMemory s t fails = inl (settled_published s t fails)

pub old_passes : (s t : Folder) → PassesOld s t → PassesUpgrade s t
old_passes s t passes = passes_weaker (IsImage s.disk) (λ image. IsImage s.disk image ⊎ IsEither s.disk.published image) (λ image left. inl left) s t passes

module _ (count : ℕ) (s m : Folder) (counts : IsImage s.disk s.disk.published) (surveys : SurveysOld count s m) where
  same_files : m.disk.published ≡ s.disk.published
  same_files = published_after s m counts surveys.settled

  pub found_then : IsFoundOld count m
  found_then = record { rest = rests_after s m counts surveys.settled; old = subst (IsOldWith count) (sym same_files) surveys.is }

  module _ (t : Folder) where
    pub upgrades_then : Upgrades count m t → Upgrades count s t
    upgrades_then step = record { rest = step.rest; is = subst (λ (f : Files). BecomesRepository count f t.disk.published) same_files step.is }

    still : StaysOld m.disk.published t.disk.published → StaysOrNot s t
    still stay = inr (subst (λ (f : Files). StaysOld f t.disk.published) same_files stay)

    either : IsEither m.disk.published t.disk.published → KeepsOrUpgrades s t
    either (inl stay) = inl (still stay)
    either (inr becomes) = inr (subst (λ (f : Files). BecomesOne f t.disk.published) same_files becomes)

    fails_at : (which : ShelfCall) → FoundFailsAt which m t → UpgradeFailsAt which s t
    fails_at call.Names fails = still fails
    fails_at call.Length fails = still fails
    fails_at call.ReadAt fails = still fails
    fails_at call.StartDraft fails = still fails
    fails_at call.Append fails = still fails
    fails_at call.SyncDraft fails = still fails
    fails_at call.Publish fails = either fails
    fails_at call.SyncFolder fails = either fails

    pub fails_then : (fault : UpgradeFault) → FoundFails fault m t → UpgradeFails fault s t
    fails_then NoStore fails = absurd fails
    fails_then NotOld fails = absurd fails
    fails_then UnknownFormat fails = absurd fails
    fails_then BadCount fails = absurd fails
    fails_then (BadRun number) fails = subst (λ (f : Files). HasBadRun number f × StaysOld f t.disk.published) same_files fails
    fails_then BadFailing fails = subst (λ (f : Files). HasBadFailing f × StaysOld f t.disk.published) same_files fails
    fails_then (Shelf which) fails = fails_at which fails
    fails_then NoMemory fails = still fails

    pub passes_all_then : PassesUpgrade m t → PassesUpgrade s t
    passes_all_then passes = passes_after s m counts surveys.settled IsEither t passes

-- where the folder is told or not
pub goes_look_fails : (fault : OldFault) (a b : Option Folder) → Goes a b (OldSurveyFails fault) → Goes a b (UpgradeFails (fault_of_look fault))
goes_look_fails fault a b fails = goes_weaker a b (OldSurveyFails fault) (UpgradeFails (fault_of_look fault)) fails (look_fails fault)

pub goes_old_passes : (a b : Option Folder) → Goes a b PassesOld → Goes a b PassesUpgrade
goes_old_passes a b passes = goes_weaker a b PassesOld PassesUpgrade passes old_passes

module _ (count : ℕ) (a b : Option Folder) (counts : IfSome a (λ s. IsImage s.disk s.disk.published)) (surveys : Goes a b (SurveysOld count)) where
  abbrev Looked : Folder → Folder → Type 0
  Looked s m = IsImage s.disk s.disk.published × SurveysOld count s m

  looked : Goes a b Looked
  looked = goes_from a b (λ s. IsImage s.disk s.disk.published) (SurveysOld count) Looked counts surveys (λ s t p q. (p, q))

  pub some_found : IfSome b (IsFoundOld count)
  some_found = by a b looked
    where
      by : (a b : Option Folder) → Goes a b Looked → IfSome b (IsFoundOld count)
      by None None p = tt
      by None (Some t) p = absurd p
      by (Some s) None p = absurd p
      by (Some s) (Some t) p = found_then count s t p.0 p.1

  module _ (c : Option Folder) where
    pub goes_upgrades_then : Goes b c (Upgrades count) → Goes a c (Upgrades count)
    goes_upgrades_then step = goes_then a b c Looked (Upgrades count) (Upgrades count) looked step (λ s m t p q. upgrades_then count s m p.0 p.1 t q)

    pub goes_fails_then : (fault : UpgradeFault) → Goes b c (FoundFails fault) → Goes a c (UpgradeFails fault)
    goes_fails_then fault step = goes_then a b c Looked (FoundFails fault) (UpgradeFails fault) looked step (λ s m t p q. fails_then count s m p.0 p.1 t fault q)

    pub goes_passes_then : Goes b c PassesUpgrade → Goes a c PassesUpgrade
    goes_passes_then step = goes_then a b c Looked PassesUpgrade PassesUpgrade looked step (λ s m t p q. passes_all_then count s m p.0 p.1 t q)

-- what was only read stays
pub moved_on : (b c : Option Folder) (P : Option Folder → Type 0) → Goes b c Stays → P b → P c
moved_on b c P same here = subst P (sym (same_state b c same)) here

pub look_failed : (fault : OldFault) → upgrade_failed {T = ℕ} (Err (fault_of_look fault)) ≡ old_failed {T = ℕ} (Err fault)
look_failed old.NoStore = refl
look_failed old.NotOld = refl
look_failed old.UnknownFormat = refl
look_failed old.BadCount = refl
look_failed (old.Shelf which) = refl
look_failed old.NoMemory = refl

pub ready_by : (b : Option Folder) (count : ℕ) (bytes : List ℕ) (ids : List (List ℕ)) → base_in bytes ≡ record { count = count; ids = ids } → IfSome b (IsReadyToAdopt count) → IfSome b (IsReadyToAdopt (base_in bytes).count)
ready_by b count bytes ids tells is = subst (λ (base : Base). IfSome b (IsReadyToAdopt base.count)) (sym tells) is

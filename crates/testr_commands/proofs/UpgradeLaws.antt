-- What is true of `upgrade` at each of its exits.
use Rattle.std.proofs.Common.{◌≡◌, ◌⊎◌, inl, inr, ℕ, ◌<◌, Bool, true, false, cond, Option, None, Some, IfSome, IsSome, List, length, Result, Ok, Err, refl, sym, ap, subst, ◌∙◌, arith}
use Rattle.std.specs.Prelude.{IsSomeAnd}
use Rattle.std.specs.Io.KnownBytes.{Appends}
use Rattle.edge_io.specs.Bytes.{AppendsPrefix}
use Rattle.edge_io.specs.Disk.{Files, Disk, Folder, IsImage}
use Rattle.edge_io.specs.Moments.{LeavesOnly, Passes}
use Rattle.edge_io.specs.Seen.{Seen}
use Rattle.edge_io.specs.Spawners.{Spawning}
use Rattle.edge_io.specs.Steps.{Goes, Settled}
use Rattle.edge_io.proofs.Going.{goes_from, goes_weaker}
use Rattle.edge_io.proofs.Passing.{passes_weaker}
use Rattle.run_ledger.specs.Caches.{IsSound}
use Rattle.run_ledger.proofs.SoundLemmas.{sound_without}
use Rattle.run_shelf.specs.Adoption.{IsOld, old_format_bytes}
use Rattle.run_shelf.specs.declared.faults.ShelfCall.{ShelfCall}
use Rattle.run_shelf.specs.declared.faults.ShelfCall.TheVariants as call
use Rattle.run_shelf.specs.Repository.{format_name, format_bytes, based_format_bytes, full_name, HasFormat, IsRepository}
use Rattle.old_folder.specs.Converting.{StaysOld}
use Rattle.old_folder.specs.Looking.{HasStrangeFormat, LacksCount}
use Rattle.old_folder.specs.Olds.{failing_name, IsOldWith}
use Rattle.old_runs.specs.Files.{IsDamaged}
use Rattle.old_upgrade.specs.Upgrading.{Upgrades, UpgradeFailsAt, UpgradeFails, PassesUpgrade, IsEither, StaysOrNot, KeepsOrUpgrades, LacksCaches, BecomesOne, HasBadRun, HasBadFailing, upgrade_failed}
use Rattle.old_upgrade.proofs.SoundLemmas.{stays_sound, becomes_sound}
use Rattle.old_upgrade.specs.declared.faults.UpgradeFault.{UpgradeFault}
use Rattle.old_upgrade.specs.declared.faults.UpgradeFault.TheVariants.{NoStore, NotOld, UnknownFormat, BadCount, BadRun, BadFailing, Shelf, NoMemory}
use Rattle.command_steps.specs.Outside.{Work, Shown, work_folder, in_folder, SameCounts}
use Rattle.command_steps.specs.Refusals.{refusal_exit_status, fault_place_of}
use Rattle.command_steps.specs.Reporting.{Prints}
use Rattle.command_steps.specs.Runs.{KeepsRepository}
use Rattle.command_steps.specs.Steps.{Then, stops, goes_on, Gives}
use Rattle.command_steps.specs.Upgrading.{UpgradesFolder, upgraded_text}
use Rattle.command_steps.specs.Verdicts.{verdict_exit_status}
use Rattle.command_steps.specs.declared.answer.Verdict.{Verdict}
use Rattle.command_steps.specs.declared.answer.Verdict.TheVariants.{Passed}
use Rattle.command_steps.specs.declared.answer.Refusal.{Refusal}
use Rattle.command_steps.specs.declared.answer.Refusal.TheVariants as refusal
use Rattle.command_steps.specs.declared.run_report.PrintFault.{PrintFault}
use Rattle.testr_commands.specs.Placed.{may_have_placed}
use Rattle.testr_commands.specs.Upgrade.{UpgradesAll, DidUpgrade, IsWholeOld, PrintsOfUpgrade, KeepsWithoutCaches, upgrade_may_have_kept}
use Rattle.testr_commands.proofs.ChainLemmas.{IsRefused, KeepsCounts, RefusesAs, then_counts, then_refuses, gives_refuses}
use Rattle.testr_commands.proofs.CommandLaws.{of_shown}
use Rattle.testr_commands.proofs.StepLaws.{folder_counts, placed, print_counts, print_refuses, gives_counts}

-- ---- the step

upgrade_place : (fault : UpgradeFault) → fault_place_of (refusal.Upgrade fault) ≡ cond (upgrade_failed {T = ℕ} (Err fault)) (Some in_folder) None
upgrade_place NoStore = refl
upgrade_place NotOld = refl
upgrade_place UnknownFormat = refl
upgrade_place BadCount = refl
upgrade_place (BadRun number) = refl
upgrade_place BadFailing = refl
upgrade_place (Shelf which) = refl
upgrade_place NoMemory = refl

step_counts : (a b : Work) (count : ℕ) → UpgradesFolder a.folder b.folder (Ok count) → b ≡ work_folder.put a b.folder → SameCounts a b
step_counts a b count step rest = folder_counts a b false step.count rest

step_refuses : (a b : Work) (fault : UpgradeFault) → UpgradesFolder a.folder b.folder (Err fault) → b ≡ work_folder.put a b.folder → IsRefused ⊥ (refusal.Upgrade fault) a b
step_refuses a b fault step rest = placed a b (refusal.Upgrade fault) tt (λ c. absurd c) (upgrade_place fault) (folder_counts a b (upgrade_failed {T = ℕ} (Err fault)) step.count rest)

module _ (site : Seen Files) (spawner : Seen Spawning) (input : Seen (List ℕ)) where
  abbrev see : Shown → Work
  see = of_shown site spawner input

  pub upgrade_refuses : RefusesAs see ⊥ (λ r. r) UpgradesAll
  upgrade_refuses =
      then_refuses see (λ a b v s. step_counts (see a) (see b) v s.at (ap see s.rest)) (λ a b e s. step_refuses (see a) (see b) e s.at (ap see s.rest)) (λ count.
      then_refuses see (λ a b v s. print_counts (see a) (see b) _ v s.at (ap see s.rest)) (λ a b e s. print_refuses (see a) (see b) _ e s.at (ap see s.rest)) (λ _.
      gives_refuses see ⊥))

  pub upgrade_counts : KeepsCounts see UpgradesAll
  upgrade_counts =
      then_counts see (λ a b v s. step_counts (see a) (see b) v s.at (ap see s.rest)) (λ count.
      then_counts see (λ a b v s. print_counts (see a) (see b) _ v s.at (ap see s.rest)) (λ _.
      gives_counts see))

-- ---- how it ends

data UpgradeEnds (a b : Shown) (outcome : Result Verdict Refusal) : Type 0 where
  refused : (fault : UpgradeFault) → outcome ≡ Err (refusal.Upgrade fault) → UpgradesFolder a.folder b.folder (Err fault) → b.out ≡ a.out → UpgradeEnds a b outcome
  unprinted : (count : ℕ) (fault : PrintFault) → outcome ≡ Err (refusal.Print fault) → UpgradesFolder a.folder b.folder (Ok count) → AppendsPrefix a.out.told b.out.told (upgraded_text count) → UpgradeEnds a b outcome
  printed : (count : ℕ) → outcome ≡ Ok Passed → UpgradesFolder a.folder b.folder (Ok count) → Appends a.out.told b.out.told (upgraded_text count) → AppendsPrefix a.out.told b.out.told (upgraded_text count) → UpgradeEnds a b outcome

ends : (a b : Shown) (outcome : Result Verdict Refusal) → UpgradesAll a b outcome → UpgradeEnds a b outcome
ends a b outcome (stops fault is step) = refused fault is step.at (λ i. (step.rest i).out)
ends a b outcome (goes_on count m step (stops fault is printing)) =
    unprinted count fault is
    (subst (λ (f : Seen Folder). UpgradesFolder a.folder f (Ok count)) (λ i. (sym printing.rest i).folder) step.at)
    (subst (λ (o : Seen (List ℕ)). AppendsPrefix o.told b.out.told (upgraded_text count)) (λ i. (step.rest i).out) printing.at.prefix)
ends a b outcome (goes_on count m step (goes_on done n printing gives)) =
    printed count gives.answer
    (subst (λ (f : Seen Folder). UpgradesFolder a.folder f (Ok count)) ((λ i. (sym printing.rest i).folder) ∙ (λ i. (sym gives.same i).folder)) step.at)
    (subst (λ (o : Seen (List ℕ)). Appends a.out.told o.told (upgraded_text count)) (λ i. (sym gives.same i).out) (subst (λ (o : Seen (List ℕ)). Appends o.told n.out.told (upgraded_text count)) (λ i. (step.rest i).out) printing.at.whole))
    (subst (λ (o : Seen (List ℕ)). AppendsPrefix a.out.told o.told (upgraded_text count)) (λ i. (sym gives.same i).out) (subst (λ (o : Seen (List ℕ)). AppendsPrefix o.told n.out.told (upgraded_text count)) (λ i. (step.rest i).out) printing.at.prefix))

-- ---- what a stop leaves, and whether that is sound

step_sound : (s t : Folder) → IsImage s.disk s.disk.published → PassesUpgrade s t → KeepsWithoutCaches s t
step_sound s t reads passes lacks =
    passes_weaker (λ image. IsImage s.disk image ⊎ IsEither s.disk.published image) IsSound by s t passes
  where
    here : LacksCaches s.disk.published
    here = lacks s.disk.published reads

    by : (image : Files) → IsImage s.disk image ⊎ IsEither s.disk.published image → IsSound image
    by image (inl left) = let none = lacks image left in sound_without image none.failing none.times
    by image (inr (inl stays)) = stays_sound s.disk.published image stays here
    by image (inr (inr becomes)) = becomes_sound s.disk.published image becomes here

goes_sound : (a b : Seen Folder) (result : Result ℕ UpgradeFault) → UpgradesFolder a b result → Goes a.told b.told KeepsWithoutCaches
goes_sound a b result step = goes_from a.told b.told (λ s. IsImage s.disk s.disk.published) PassesUpgrade KeepsWithoutCaches step.reads step.any_moment step_sound

-- ---- what reads give behind it

settled : (s t : Folder) → Settled s t → t.disk.published ≡ s.disk.published
settled s t is = ap (λ (f : Folder). f.disk.published) is

some_bytes : (one other : List ℕ) → Some one ≡ Some other → one ≡ other
some_bytes one other is = cc

some_number : (m n : ℕ) → Some m ≡ Some n → m ≡ n
some_number m n is = cc

old_size : length old_format_bytes ≡ 2
old_size = refl

first_size : length format_bytes ≡ 16
first_size = refl

second_size : length based_format_bytes ≡ 16
second_size = refl

pub not_both : (files : Files) → IsOld files → HasFormat files → ⊥
not_both files old (inl first) = omega (arith, ap length (some_bytes old_format_bytes format_bytes (sym old ∙ first)), old_size, first_size)
not_both files old (inr second) = omega (arith, ap length (some_bytes old_format_bytes based_format_bytes (sym old ∙ second)), old_size, second_size)

same_repository : (s t : Folder) → t.disk.published ≡ s.disk.published → KeepsRepository s t
same_repository s t same is = subst IsRepository (sym same) is

old_repository : (s t : Folder) → IsOld s.disk.published → KeepsRepository s t
old_repository s t old is = absurd (not_both s.disk.published old is.format)

stays_repository : (s t : Folder) → StaysOrNot s t → KeepsRepository s t
stays_repository s t (inl same) = same_repository s t same
stays_repository s t (inr stays) = old_repository s t stays.was.old

unplaced_stays : (which : ShelfCall) (s t : Folder) → may_have_placed which ≡ false → UpgradeFailsAt which s t → StaysOrNot s t
unplaced_stays call.Names s t not fails = fails
unplaced_stays call.Length s t not fails = fails
unplaced_stays call.ReadAt s t not fails = fails
unplaced_stays call.StartDraft s t not fails = fails
unplaced_stays call.Append s t not fails = fails
unplaced_stays call.SyncDraft s t not fails = fails
unplaced_stays call.Publish s t not fails = cc
unplaced_stays call.SyncFolder s t not fails = cc

fails_stay : (fault : UpgradeFault) (s t : Folder) → upgrade_may_have_kept (Err (refusal.Upgrade fault)) ≡ false → UpgradeFails fault s t → StaysOrNot s t
fails_stay NoStore s t not fails = inl (settled s t fails.1)
fails_stay NotOld s t not fails = inl (settled s t fails.1)
fails_stay UnknownFormat s t not fails = inl (settled s t fails.1)
fails_stay BadCount s t not fails = inl (settled s t fails.1)
fails_stay (BadRun number) s t not fails = inr fails.1
fails_stay BadFailing s t not fails = inr fails.1
fails_stay (Shelf which) s t not fails = unplaced_stays which s t not fails
fails_stay NoMemory s t not fails = fails

either_repository : (s t : Folder) → KeepsOrUpgrades s t → KeepsRepository s t
either_repository s t (inl stays) = stays_repository s t stays
either_repository s t (inr becomes) = old_repository s t becomes.1.upgraded.was.old

failed_repository : (which : ShelfCall) (s t : Folder) → UpgradeFailsAt which s t → KeepsRepository s t
failed_repository call.Names s t fails = stays_repository s t fails
failed_repository call.Length s t fails = stays_repository s t fails
failed_repository call.ReadAt s t fails = stays_repository s t fails
failed_repository call.StartDraft s t fails = stays_repository s t fails
failed_repository call.Append s t fails = stays_repository s t fails
failed_repository call.SyncDraft s t fails = stays_repository s t fails
failed_repository call.Publish s t fails = either_repository s t fails
failed_repository call.SyncFolder s t fails = either_repository s t fails

fails_repository : (fault : UpgradeFault) (s t : Folder) → UpgradeFails fault s t → KeepsRepository s t
fails_repository NoStore s t fails = same_repository s t (settled s t fails.1)
fails_repository NotOld s t fails = same_repository s t (settled s t fails.1)
fails_repository UnknownFormat s t fails = same_repository s t (settled s t fails.1)
fails_repository BadCount s t fails = same_repository s t (settled s t fails.1)
fails_repository (BadRun number) s t fails = old_repository s t fails.1.was.old
fails_repository BadFailing s t fails = old_repository s t fails.1.was.old
fails_repository (Shelf which) s t fails = failed_repository which s t fails
fails_repository NoMemory s t fails = stays_repository s t fails

kept_by : (outcome : Result Verdict Refusal) (r : Result Verdict Refusal) → outcome ≡ r → upgrade_may_have_kept outcome ≡ false → upgrade_may_have_kept r ≡ false
kept_by outcome r is not = ap upgrade_may_have_kept (sym is) ∙ not

module _ (a b : Shown) (outcome : Result Verdict Refusal) where
  moments_by : UpgradeEnds a b outcome → Goes a.folder.told b.folder.told PassesUpgrade
  moments_by (refused fault is step out) = step.any_moment
  moments_by (unprinted count fault is step out) = step.any_moment
  moments_by (printed count is step out part) = step.any_moment

  pub upgrade_moments : UpgradesAll a b outcome → Goes a.folder.told b.folder.told PassesUpgrade
  upgrade_moments done = moments_by (ends a b outcome done)

  sound_by : UpgradeEnds a b outcome → Goes a.folder.told b.folder.told KeepsWithoutCaches
  sound_by (refused fault is step out) = goes_sound a.folder b.folder (Err fault) step
  sound_by (unprinted count fault is step out) = goes_sound a.folder b.folder (Ok count) step
  sound_by (printed count is step out part) = goes_sound a.folder b.folder (Ok count) step

  pub upgrade_sound : UpgradesAll a b outcome → Goes a.folder.told b.folder.told KeepsWithoutCaches
  upgrade_sound done = sound_by (ends a b outcome done)

  upgraded_repository : (count : ℕ) → UpgradesFolder a.folder b.folder (Ok count) → Goes a.folder.told b.folder.told KeepsRepository
  upgraded_repository count step = goes_weaker a.folder.told b.folder.told (Upgrades count) KeepsRepository step.upgraded (λ s t up is. up.is.upgraded.repository)

  repository_by : UpgradeEnds a b outcome → Goes a.folder.told b.folder.told KeepsRepository
  repository_by (refused fault is step out) = goes_weaker a.folder.told b.folder.told (UpgradeFails fault) KeepsRepository step.refused (fails_repository fault)
  repository_by (unprinted count fault is step out) = upgraded_repository count step
  repository_by (printed count is step out part) = upgraded_repository count step

  pub upgrade_repository : UpgradesAll a b outcome → Goes a.folder.told b.folder.told KeepsRepository
  upgrade_repository done = repository_by (ends a b outcome done)

  keeps_by : UpgradeEnds a b outcome → upgrade_may_have_kept outcome ≡ false → Goes a.folder.told b.folder.told StaysOrNot
  keeps_by (refused fault is step out) not =
      let no : upgrade_may_have_kept (Err (refusal.Upgrade fault)) ≡ false = kept_by outcome (Err (refusal.Upgrade fault)) is not in
      goes_weaker a.folder.told b.folder.told (UpgradeFails fault) StaysOrNot step.refused (λ s t fails. fails_stay fault s t no fails)
  keeps_by (unprinted count fault is step out) not = let no : upgrade_may_have_kept (Err (refusal.Print fault)) ≡ false = kept_by outcome (Err (refusal.Print fault)) is not in cc
  keeps_by (printed count is step out part) not = let no : upgrade_may_have_kept (Ok Passed) ≡ false = kept_by outcome (Ok Passed) is not in cc

  pub upgrade_keeps : UpgradesAll a b outcome → upgrade_may_have_kept outcome ≡ false → Goes a.folder.told b.folder.told StaysOrNot
  upgrade_keeps done = keeps_by (ends a b outcome done)

-- ---- what was printed and done

module _ (a b : Work) where
  abbrev x : Shown
  x = record { folder = a.folder; out = a.out }

  abbrev y : Shown
  y = record { folder = b.folder; out = b.out }

  prints_by : (outcome : Result Verdict Refusal) → UpgradeEnds x y outcome → (b.out.told ≡ a.out.told) ⊎ PrintsOfUpgrade a b
  prints_by outcome (refused fault is step out) = inl (λ i. (out i).told)
  prints_by outcome (unprinted count fault is step out) = inr (record { count = count; upgraded = step.upgraded; printed = out })
  prints_by outcome (printed count is step out part) = inr (record { count = count; upgraded = step.upgraded; printed = part })

  pub upgrade_prints : (outcome : Result Verdict Refusal) → UpgradesAll x y outcome → (b.out.told ≡ a.out.told) ⊎ PrintsOfUpgrade a b
  upgrade_prints outcome done = prints_by outcome (ends x y outcome done)

  did_by : (v : Verdict) → UpgradeEnds x y (Ok v) → DidUpgrade a b (verdict_exit_status v)
  did_by v (refused fault is step out) = cc
  did_by v (unprinted count fault is step out) = cc
  did_by v (printed count is step out part) = let same : v ≡ Passed = cc in record { count = count; upgraded = step.upgraded; printed = out; status = ap verdict_exit_status same }

  pub upgrade_did : (v : Verdict) → UpgradesAll x y (Ok v) → DidUpgrade a b (verdict_exit_status v)
  upgrade_did v done = did_by v (ends x y (Ok v) done)

  -- ---- and that it refuses by no name where the folder is whole

  none_some : (files : Files) (o : Option (List ℕ)) → o ≡ None → o ≡ Some old_format_bytes → ⊥
  none_some files o none some = cc

  damaged_by : (o : Option (List ℕ)) → IsSomeAnd o IsDamaged → ((bytes : List ℕ) → o ≡ Some bytes → IsDamaged bytes → ⊥) → ⊥
  damaged_by None damaged whole = damaged
  damaged_by (Some bytes) damaged whole = whole bytes refl damaged

  tells_not : (o : Option ℕ) (next : ℕ) → o ≡ None → o ≡ Some next → ⊥
  tells_not o next none some = cc

  count_less : (files : Files) (one other number : ℕ) → IsOldWith one files → IsOldWith other files → number < one → number < other
  count_less files one other number was also less = elim was.counted.least [
    | inl same ↦
        let next : was.counted.next ≡ also.counted.next = some_number was.counted.next also.counted.next (sym was.counted.tells ∙ also.counted.tells) in
        omega (arith, less, same, next, also.counted.most)
    | inr given ↦ omega (arith, less, given.3, also.counted.within given.0 given.1 given.2)
  ]

  never_step : (fault : UpgradeFault) (s t : Folder) → IsWholeOld s.disk.published → UpgradeFails fault s t → refusal_exit_status (refusal.Upgrade fault) ≡ 3 → ⊥
  never_step NoStore s t can fails three = none_some s.disk.published (s.disk.published format_name) fails.0 can.old.old
  never_step NotOld s t can fails three = not_both s.disk.published can.old.old fails.0
  never_step UnknownFormat s t can fails three = fails.0.not_old can.old.old
  never_step BadCount s t can fails three = tells_not _ can.old.counted.next fails.0.none can.old.counted.tells
  never_step (BadRun number) s t can fails three =
      damaged_by (s.disk.published (full_name number)) fails.0.damaged
      (λ bytes there damaged. can.runs number bytes (count_less s.disk.published fails.0.count can.count number fails.0.old can.old fails.0.counted) there damaged)
  never_step BadFailing s t can fails three = damaged_by (s.disk.published failing_name) fails.0.damaged (λ bytes there damaged. can.failing bytes there damaged)
  never_step (Shelf which) s t can fails three = absurd (omega (arith, three))
  never_step NoMemory s t can fails three = absurd (omega (arith, three))

  never_goes : (fault : UpgradeFault) (p q : Option Folder) → IsSomeAnd p (λ s. IsWholeOld s.disk.published) → Goes p q (UpgradeFails fault) → refusal_exit_status (refusal.Upgrade fault) ≡ 3 → ⊥
  never_goes fault None q can fails three = can
  never_goes fault (Some s) None can fails three = fails
  never_goes fault (Some s) (Some t) can fails three = never_step fault s t can fails three

  never_by : (r : Refusal) → UpgradeEnds x y (Err r) → IsSomeAnd a.folder.told (λ s. IsWholeOld s.disk.published) → refusal_exit_status r ≡ 3 → ⊥
  never_by r (refused fault is step out) can three =
      let same : r ≡ refusal.Upgrade fault = cc in
      never_goes fault a.folder.told b.folder.told can step.refused (ap refusal_exit_status (sym same) ∙ three)
  never_by r (unprinted count fault is step out) can three =
      let same : r ≡ refusal.Print fault = cc in
      absurd (omega (arith, ap refusal_exit_status (sym same) ∙ three))
  never_by r (printed count is step out part) can three = cc

  pub upgrade_never : (r : Refusal) → UpgradesAll x y (Err r) → IsSomeAnd a.folder.told (λ s. IsWholeOld s.disk.published) → refusal_exit_status r ≡ 3 → ⊥
  upgrade_never r done can three = never_by r (ends x y (Err r) done) can three

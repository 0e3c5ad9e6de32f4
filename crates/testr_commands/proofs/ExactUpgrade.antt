-- Where the cause of a named refusal of an upgrade is there, it comes.
use Rattle.std.proofs.Common.{◌≡◌, ◌<◌, ◌+◌, ℕ, ◌⊎◌, inl, inr, Option, None, Some, Result, Ok, Err, List, [], length, get_or, refl, sym, ap, subst, ◌∙◌, arith}
use Rattle.std.specs.Prelude.{⊤, IsSomeAnd, slice_get}
use Rattle.std.proofs.lemmas.Bool.{cases_lt}
use Rattle.std.proofs.lemmas.Option.{slice_get-get_or}
use Rattle.edge_io.specs.Disk.{Folder, Files}
use Rattle.edge_io.specs.Seen.{Seen}
use Rattle.run_shelf.specs.Adoption.{IsOld, old_format_bytes}
use Rattle.run_shelf.specs.Repository.{full_name, format_name, most_runs, HasFormat}
use Rattle.old_folder.specs.Looking.{HasStrangeFormat, LacksCount}
use Rattle.old_folder.specs.Olds.{failing_name, HasOldRun, IsOldCount, IsOldWith}
use Rattle.old_runs.specs.Files.{IsDamaged}
use Rattle.old_upgrade.specs.Upgrading.{IsConvertedFrom, AreFailing, BecomesRepository, HasBadRun, HasBadFailing}
use Rattle.old_upgrade.specs.declared.faults.UpgradeFault.{UpgradeFault}
use Rattle.old_upgrade.specs.declared.faults.UpgradeFault.TheVariants as upgrade_fault
use Rattle.command_steps.specs.Upgrading.{UpgradesFolder}
use Rattle.testr_commands.specs.Exact.{UpgradeEnds}
use Rattle.testr_commands.proofs.ExactLemmas.{no_format, no_other, two_formats, look_of, at_told}
use Rattle.testr_commands.proofs.UpgradeLaws.{not_both}

-- ---- whose format it is

no_old : (files : Files) → files format_name ≡ None → IsOld files → ⊥
no_old files none old =
    let both : None ≡ Some old_format_bytes = sym none ∙ old in
    cc

-- ---- how many runs there are

not_less : (files : Files) (one other : ℕ) → IsOldCount files one → IsOldCount files other → one < other → ⊥
not_less files one other a b less = by b.least
  where
    by : (other ≡ b.next) ⊎ ((number : ℕ) × (number < most_runs) × HasOldRun files number × (other ≡ number + 1)) → ⊥
    by (inl is) =
        let both : Some a.next ≡ Some b.next = sym a.tells ∙ b.tells in
        let same : a.next ≡ b.next = cc in
        omega (arith, less, is, same, a.most)
    by (inr (number, few, has, is)) = omega (arith, less, is, a.within number few has)

same_count : (files : Files) (one other : ℕ) → IsOldCount files one → IsOldCount files other → one ≡ other
same_count files one other a b = elim (cases_lt one other) [
  | inl less ↦ absurd (not_less files one other a b less)
  | inr rest ↦ elim (cases_lt other one) [
    | inl less ↦ absurd (not_less files other one b a less)
    | inr also ↦ omega (arith, rest, also)
  ]
]

-- it lacks a count, and has one
no_count : (files : Files) (count : ℕ) → LacksCount files → IsOldWith count files → ⊥
no_count files count lacks old =
    let both : None ≡ Some old.counted.next = sym lacks.none ∙ old.counted.tells in
    cc

-- ---- what is damaged

-- a run that was converted was not damaged
not_converted : (file : Option (List ℕ)) (bytes : List ℕ) → IsSomeAnd file IsDamaged → IsConvertedFrom file bytes → ⊥
not_converted None bytes damaged from = damaged
not_converted (Some old) bytes damaged from = from.whole damaged

-- nor was a failing set that was
not_failing : (file : Option (List ℕ)) (ids : List (List ℕ)) → IsSomeAnd file IsDamaged → AreFailing file ids → ⊥
not_failing None ids damaged are = damaged
not_failing (Some old) ids damaged are = are.0 damaged

-- a file that is damaged is none that is not
not_whole : (file : Option (List ℕ)) → IsSomeAnd file IsDamaged → ((bytes : List ℕ) → file ≡ Some bytes → IsDamaged bytes → ⊥) → ⊥
not_whole None damaged whole = damaged
not_whole (Some bytes) damaged whole = whole bytes refl damaged

no_bad_run : (files image : Files) (count number : ℕ) → HasBadRun number files → BecomesRepository count files image → ⊥
no_bad_run files image count number bad is =
    let same : bad.count ≡ length is.runs = same_count files bad.count (length is.runs) bad.old.counted is.upgraded.was.counted in
    let few : number < length is.runs = omega (arith, same, bad.counted) in
    let item : slice_get is.runs number ≡ Some (get_or is.runs number []) = slice_get-get_or is.runs number [] few in
    not_converted (files (full_name number)) (get_or is.runs number []) bad.damaged (is.are number (get_or is.runs number []) item)

no_bad_failing : (files image : Files) (count : ℕ) → HasBadFailing files → BecomesRepository count files image → ⊥
no_bad_failing files image count bad is = not_failing (files failing_name) is.ids bad.damaged is.failing

not_before : (files : Files) (number other : ℕ) → HasBadRun number files → HasBadRun other files → other < number → ⊥
not_before files number other a b less = not_whole (files (full_name other)) b.damaged (λ bytes there. a.before other bytes less there)

one_run : (files : Files) (number other : ℕ) → HasBadRun number files → HasBadRun other files → other ≡ number
one_run files number other a b = elim (cases_lt number other) [
  | inl less ↦ absurd (not_before files other number b a less)
  | inr rest ↦ elim (cases_lt other number) [
    | inl less ↦ absurd (not_before files number other a b less)
    | inr also ↦ omega (arith, rest, also)
  ]
]

run_or_failing : (files : Files) (number : ℕ) → HasBadRun number files → HasBadFailing files → ⊥
run_or_failing files number a b =
    let same : a.count ≡ b.count = same_count files a.count b.count a.old.counted b.old.counted in
    let few : number < b.count = omega (arith, same, a.counted) in
    not_whole (files (full_name number)) a.damaged (λ bytes there. b.runs number bytes few there)

-- ---- the causes of an answer, and of each refusal

abbrev Cause : Files → Result ℕ UpgradeFault → Type 0
Cause files (Ok count) = (image : Files) × BecomesRepository count files image
Cause files (Err upgrade_fault.NoStore) = files format_name ≡ None
Cause files (Err upgrade_fault.NotOld) = HasFormat files
Cause files (Err upgrade_fault.UnknownFormat) = HasStrangeFormat files
Cause files (Err upgrade_fault.BadCount) = LacksCount files
Cause files (Err (upgrade_fault.BadRun number)) = HasBadRun number files
Cause files (Err upgrade_fault.BadFailing) = HasBadFailing files
Cause files (Err (upgrade_fault.Shelf call)) = ⊤
Cause files (Err upgrade_fault.NoMemory) = ⊤

cause_of : (before after : Seen Folder) (s : Folder) (result : Result ℕ UpgradeFault) → before.told ≡ Some s → UpgradesFolder before after result → Cause s.disk.published result
cause_of before after s (Ok count) is step = look_of before.told after.told s is (λ f. (image : Files) × BecomesRepository count f.disk.published image) _ step.upgraded (λ t up. (t.disk.published, up.is))
cause_of before after s (Err upgrade_fault.NoStore) is step = look_of before.told after.told s is (λ f. f.disk.published format_name ≡ None) _ step.refused (λ t why. why.0)
cause_of before after s (Err upgrade_fault.NotOld) is step = look_of before.told after.told s is (λ f. HasFormat f.disk.published) _ step.refused (λ t why. why.0)
cause_of before after s (Err upgrade_fault.UnknownFormat) is step = look_of before.told after.told s is (λ f. HasStrangeFormat f.disk.published) _ step.refused (λ t why. why.0)
cause_of before after s (Err upgrade_fault.BadCount) is step = look_of before.told after.told s is (λ f. LacksCount f.disk.published) _ step.refused (λ t why. why.0)
cause_of before after s (Err (upgrade_fault.BadRun number)) is step = look_of before.told after.told s is (λ f. HasBadRun number f.disk.published) _ step.refused (λ t why. why.0)
cause_of before after s (Err upgrade_fault.BadFailing) is step = look_of before.told after.told s is (λ f. HasBadFailing f.disk.published) _ step.refused (λ t why. why.0)
cause_of before after s (Err (upgrade_fault.Shelf call)) is step = tt
cause_of before after s (Err upgrade_fault.NoMemory) is step = tt

no_repository_of : (files : Files) (result : Result ℕ UpgradeFault) → files format_name ≡ None → Cause files result → (result ≡ Err upgrade_fault.NoStore) ⊎ UpgradeEnds result
no_repository_of files (Ok count) none cause = absurd (no_old files none cause.1.upgraded.was.old)
no_repository_of files (Err upgrade_fault.NoStore) none cause = inl refl
no_repository_of files (Err upgrade_fault.NotOld) none cause = absurd (no_format files none cause)
no_repository_of files (Err upgrade_fault.UnknownFormat) none cause = absurd (no_other files none cause.other)
no_repository_of files (Err upgrade_fault.BadCount) none cause = absurd (no_old files none cause.old)
no_repository_of files (Err (upgrade_fault.BadRun number)) none cause = absurd (no_old files none cause.old.old)
no_repository_of files (Err upgrade_fault.BadFailing) none cause = absurd (no_old files none cause.old.old)
no_repository_of files (Err (upgrade_fault.Shelf call)) none cause = inr tt
no_repository_of files (Err upgrade_fault.NoMemory) none cause = inr tt

not_old_of : (files : Files) (result : Result ℕ UpgradeFault) → HasFormat files → Cause files result → (result ≡ Err upgrade_fault.NotOld) ⊎ UpgradeEnds result
not_old_of files (Ok count) ours cause = absurd (not_both files cause.1.upgraded.was.old ours)
not_old_of files (Err upgrade_fault.NoStore) ours cause = absurd (no_format files cause ours)
not_old_of files (Err upgrade_fault.NotOld) ours cause = inl refl
not_old_of files (Err upgrade_fault.UnknownFormat) ours cause = absurd (two_formats files cause.other ours)
not_old_of files (Err upgrade_fault.BadCount) ours cause = absurd (not_both files cause.old ours)
not_old_of files (Err (upgrade_fault.BadRun number)) ours cause = absurd (not_both files cause.old.old ours)
not_old_of files (Err upgrade_fault.BadFailing) ours cause = absurd (not_both files cause.old.old ours)
not_old_of files (Err (upgrade_fault.Shelf call)) ours cause = inr tt
not_old_of files (Err upgrade_fault.NoMemory) ours cause = inr tt

unknown_format_of : (files : Files) (result : Result ℕ UpgradeFault) → HasStrangeFormat files → Cause files result → (result ≡ Err upgrade_fault.UnknownFormat) ⊎ UpgradeEnds result
unknown_format_of files (Ok count) strange cause = absurd (strange.not_old cause.1.upgraded.was.old)
unknown_format_of files (Err upgrade_fault.NoStore) strange cause = absurd (no_other files cause strange.other)
unknown_format_of files (Err upgrade_fault.NotOld) strange cause = absurd (two_formats files strange.other cause)
unknown_format_of files (Err upgrade_fault.UnknownFormat) strange cause = inl refl
unknown_format_of files (Err upgrade_fault.BadCount) strange cause = absurd (strange.not_old cause.old)
unknown_format_of files (Err (upgrade_fault.BadRun number)) strange cause = absurd (strange.not_old cause.old.old)
unknown_format_of files (Err upgrade_fault.BadFailing) strange cause = absurd (strange.not_old cause.old.old)
unknown_format_of files (Err (upgrade_fault.Shelf call)) strange cause = inr tt
unknown_format_of files (Err upgrade_fault.NoMemory) strange cause = inr tt

bad_count_of : (files : Files) (result : Result ℕ UpgradeFault) → LacksCount files → Cause files result → (result ≡ Err upgrade_fault.BadCount) ⊎ UpgradeEnds result
bad_count_of files (Ok count) lacks cause = absurd (no_count files (length cause.1.runs) lacks cause.1.upgraded.was)
bad_count_of files (Err upgrade_fault.NoStore) lacks cause = absurd (no_old files cause lacks.old)
bad_count_of files (Err upgrade_fault.NotOld) lacks cause = absurd (not_both files lacks.old cause)
bad_count_of files (Err upgrade_fault.UnknownFormat) lacks cause = absurd (cause.not_old lacks.old)
bad_count_of files (Err upgrade_fault.BadCount) lacks cause = inl refl
bad_count_of files (Err (upgrade_fault.BadRun number)) lacks cause = absurd (no_count files cause.count lacks cause.old)
bad_count_of files (Err upgrade_fault.BadFailing) lacks cause = absurd (no_count files cause.count lacks cause.old)
bad_count_of files (Err (upgrade_fault.Shelf call)) lacks cause = inr tt
bad_count_of files (Err upgrade_fault.NoMemory) lacks cause = inr tt

bad_run_of : (files : Files) (number : ℕ) (result : Result ℕ UpgradeFault) → HasBadRun number files → Cause files result → (result ≡ Err (upgrade_fault.BadRun number)) ⊎ UpgradeEnds result
bad_run_of files number (Ok count) bad cause = absurd (no_bad_run files cause.0 count number bad cause.1)
bad_run_of files number (Err upgrade_fault.NoStore) bad cause = absurd (no_old files cause bad.old.old)
bad_run_of files number (Err upgrade_fault.NotOld) bad cause = absurd (not_both files bad.old.old cause)
bad_run_of files number (Err upgrade_fault.UnknownFormat) bad cause = absurd (cause.not_old bad.old.old)
bad_run_of files number (Err upgrade_fault.BadCount) bad cause = absurd (no_count files bad.count cause bad.old)
bad_run_of files number (Err (upgrade_fault.BadRun other)) bad cause = inl (ap (λ (n : ℕ). Err (upgrade_fault.BadRun n)) (one_run files number other bad cause))
bad_run_of files number (Err upgrade_fault.BadFailing) bad cause = absurd (run_or_failing files number bad cause)
bad_run_of files number (Err (upgrade_fault.Shelf call)) bad cause = inr tt
bad_run_of files number (Err upgrade_fault.NoMemory) bad cause = inr tt

bad_failing_of : (files : Files) (result : Result ℕ UpgradeFault) → HasBadFailing files → Cause files result → (result ≡ Err upgrade_fault.BadFailing) ⊎ UpgradeEnds result
bad_failing_of files (Ok count) bad cause = absurd (no_bad_failing files cause.0 count bad cause.1)
bad_failing_of files (Err upgrade_fault.NoStore) bad cause = absurd (no_old files cause bad.old.old)
bad_failing_of files (Err upgrade_fault.NotOld) bad cause = absurd (not_both files bad.old.old cause)
bad_failing_of files (Err upgrade_fault.UnknownFormat) bad cause = absurd (cause.not_old bad.old.old)
bad_failing_of files (Err upgrade_fault.BadCount) bad cause = absurd (no_count files bad.count cause bad.old)
bad_failing_of files (Err (upgrade_fault.BadRun number)) bad cause = absurd (run_or_failing files number cause bad)
bad_failing_of files (Err upgrade_fault.BadFailing) bad cause = inl refl
bad_failing_of files (Err (upgrade_fault.Shelf call)) bad cause = inr tt
bad_failing_of files (Err upgrade_fault.NoMemory) bad cause = inr tt

module _ (before after : Seen Folder) (result : Result ℕ UpgradeFault) (step : UpgradesFolder before after result) where
  by_files : (C : Files → Type 0) (Q : Type 0) → IsSomeAnd before.told (λ s. C s.disk.published) → ((files : Files) → C files → Cause files result → Q) → Q
  by_files C Q holds each = at_told before.told (λ s. C s.disk.published) Q holds (λ s is has. each s.disk.published has (cause_of before after s result is step))

  pub no_repository : IsSomeAnd before.told (λ s. s.disk.published format_name ≡ None) → (result ≡ Err upgrade_fault.NoStore) ⊎ UpgradeEnds result
  no_repository holds = by_files (λ files. files format_name ≡ None) _ holds (λ files none cause. no_repository_of files result none cause)

  pub not_old : IsSomeAnd before.told (λ s. HasFormat s.disk.published) → (result ≡ Err upgrade_fault.NotOld) ⊎ UpgradeEnds result
  not_old holds = by_files HasFormat _ holds (λ files ours cause. not_old_of files result ours cause)

  pub unknown_format : IsSomeAnd before.told (λ s. HasStrangeFormat s.disk.published) → (result ≡ Err upgrade_fault.UnknownFormat) ⊎ UpgradeEnds result
  unknown_format holds = by_files HasStrangeFormat _ holds (λ files strange cause. unknown_format_of files result strange cause)

  pub bad_count : IsSomeAnd before.told (λ s. LacksCount s.disk.published) → (result ≡ Err upgrade_fault.BadCount) ⊎ UpgradeEnds result
  bad_count holds = by_files LacksCount _ holds (λ files lacks cause. bad_count_of files result lacks cause)

  pub bad_run : (number : ℕ) → IsSomeAnd before.told (λ s. HasBadRun number s.disk.published) → (result ≡ Err (upgrade_fault.BadRun number)) ⊎ UpgradeEnds result
  bad_run number holds = by_files (HasBadRun number) _ holds (λ files bad cause. bad_run_of files number result bad cause)

  pub bad_failing : IsSomeAnd before.told (λ s. HasBadFailing s.disk.published) → (result ≡ Err upgrade_fault.BadFailing) ⊎ UpgradeEnds result
  bad_failing holds = by_files HasBadFailing _ holds (λ files bad cause. bad_failing_of files result bad cause)

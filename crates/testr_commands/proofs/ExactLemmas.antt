-- Where the cause of a named refusal is there, it comes.
use Rattle.std.proofs.Common.{◌≡◌, ◌<◌, ℕ, Bool, ◌⊎◌, inl, inr, Option, None, Some, Result, Ok, Err, List, length, ◌++◌, append-nil, refl, sym, ap, subst, ◌∙◌, arith}
use Rattle.std.specs.Prelude.{⊤, ◌≢◌, IsSome, IsSomeAnd}
use Rattle.std.specs.Io.KnownBytes.{Consumes, IsAtEnd}
use Rattle.edge_io.specs.Disk.{Folder, Files}
use Rattle.edge_io.specs.Seen.{Seen}
use Rattle.edge_io.specs.Steps.{Goes}
use Rattle.edge_io.specs.Limits.{most_bytes}
use Rattle.outcome_fold.specs.declared.row.Row.{Row}
use Rattle.run_shelf.specs.declared.faults.InitFault.{InitFault}
use Rattle.run_shelf.specs.declared.faults.InitFault.TheVariants as init_fault
use Rattle.run_shelf.specs.declared.faults.OpenFault.{OpenFault}
use Rattle.run_shelf.specs.declared.faults.OpenFault.TheVariants as open_fault
use Rattle.run_shelf.specs.declared.found.Found.{Found}
use Rattle.run_shelf.specs.Outcomes.{Surveys}
use Rattle.run_shelf.specs.Repository.{run_at, format_name, HasFormat, HasOtherFormat, HasBadBase, IsGap, IsRepository, most_runs}
use Rattle.testr_words.specs.declared.command.Question.{Question}
use Rattle.command_steps.specs.declared.input_recorder.RecordFault.{RecordFault}
use Rattle.command_steps.specs.declared.input_recorder.RecordFault.TheVariants as record_fault
use Rattle.command_steps.specs.declared.store.RunsFault.{RunsFault}
use Rattle.command_steps.specs.declared.store.RunsFault.TheVariants.{Full, NoRuns}
use Rattle.command_steps.specs.declared.question_answers.TellFault.{TellFault}
use Rattle.command_steps.specs.declared.question_answers.TellFault.TheVariants as tell_fault
use Rattle.testr_commands.specs.Exact.{InitEnds, OpenEnds, RecordEnds}
use Rattle.command_steps.specs.Outside.{Fed}
use Rattle.command_steps.specs.Recording.{Records, RecordsAll}
use Rattle.command_steps.specs.Refreshing.{Refreshes}
use Rattle.testr_words.specs.Questions.{OfLastRun}
use Rattle.command_steps.specs.Store.{Makes, Opens, TakesRun, HasRunFor}
use Rattle.run_shelf.proofs.BadBases.{bad_or_good, bad_or_gap}
use Rattle.testr_commands.proofs.FolderLemmas.{none_or_some, other_or_format}
use Rattle.std.proofs.lemmas.Bool.{cases_lt}

-- ---- causes exclude each other

pub no_format : (files : Files) → files format_name ≡ None → HasFormat files → ⊥
no_format files none (inl format) = cc
no_format files none (inr format) = cc

pub no_other : (files : Files) → files format_name ≡ None → HasOtherFormat files → ⊥
no_other files none (bytes, there, first, second) = cc

pub two_formats : (files : Files) → HasOtherFormat files → HasFormat files → ⊥
two_formats files other format = other_or_format files other format

no_gap : (files : Files) (number : ℕ) → IsGap files number → IsRepository files → ⊥
no_gap files number is repository = none_or_some (run_at files number) is.first.free (repository.no_gap number is.other is.behind is.other_few is.other_run)

one_gap : (files : Files) (number other : ℕ) → IsGap files number → IsGap files other → other ≡ number
one_gap files number other a b = elim (cases_lt number other) [
  | inl less ↦ absurd (none_or_some (run_at files number) a.first.free (b.first.before number less))
  | inr rest ↦ elim (cases_lt other number) [
    | inl less ↦ absurd (none_or_some (run_at files other) b.first.free (a.first.before other less))
    | inr also ↦ omega arith
  ]
]

-- ---- a look at a folder

-- the cause of an answer of a look at these files
abbrev LookCause : Files → Result Found OpenFault → Type 0
LookCause files (Ok found) = IsRepository files
LookCause files (Err open_fault.NoStore) = files format_name ≡ None
LookCause files (Err open_fault.UnknownFormat) = HasOtherFormat files
LookCause files (Err open_fault.BadBase) = HasFormat files × HasBadBase files
LookCause files (Err (open_fault.Gap number)) = HasFormat files × IsGap files number
LookCause files (Err (open_fault.Shelf call)) = ⊤
LookCause files (Err open_fault.NoMemory) = ⊤

same_files : (s t : Folder) (kinds : List Bool) → Surveys kinds s t → IsRepository s.disk.published
same_files s t kinds look =
    let is : t.disk.published ≡ s.disk.published = ap (λ (f : Folder). f.disk.published) look.settled in
    subst IsRepository is look.fits.repository

pub look_of : (told after : Option Folder) (s : Folder) → told ≡ Some s → (P : Folder → Type 0) (step : Folder → Folder → Type 0) → Goes told after step → ((t : Folder) → step s t → P s) → P s
look_of None after s is P step goes each = absurd (cc)
look_of (Some a) None s is P step goes each = absurd goes
look_of (Some a) (Some t) s is P step goes each =
    let same : a ≡ s = cc in
    each t (subst (λ (f : Folder). step f t) same goes)

look_cause : (before after : Seen Folder) (s : Folder) (result : Result Found OpenFault) → before.told ≡ Some s → Opens before after result → LookCause s.disk.published result
look_cause before after s (Ok found) is look = look_of before.told after.told s is (λ f. IsRepository f.disk.published) _ look.found (λ t step. same_files s t _ step)
look_cause before after s (Err open_fault.NoStore) is look = look_of before.told after.told s is (λ f. f.disk.published format_name ≡ None) _ look.refused (λ t step. step.0)
look_cause before after s (Err open_fault.UnknownFormat) is look = look_of before.told after.told s is (λ f. HasOtherFormat f.disk.published) _ look.refused (λ t step. step.0)
look_cause before after s (Err open_fault.BadBase) is look = look_of before.told after.told s is (λ f. HasFormat f.disk.published × HasBadBase f.disk.published) _ look.refused (λ t step. step.0)
look_cause before after s (Err (open_fault.Gap number)) is look = look_of before.told after.told s is (λ f. HasFormat f.disk.published × IsGap f.disk.published number) _ look.refused (λ t step. step.0)
look_cause before after s (Err (open_fault.Shelf call)) is look = tt
look_cause before after s (Err open_fault.NoMemory) is look = tt

no_repository_of : (files : Files) (result : Result Found OpenFault) → files format_name ≡ None → LookCause files result → (result ≡ Err open_fault.NoStore) ⊎ OpenEnds result
no_repository_of files (Ok found) none cause = absurd (no_format files none cause.format)
no_repository_of files (Err open_fault.NoStore) none cause = inl refl
no_repository_of files (Err open_fault.UnknownFormat) none cause = absurd (no_other files none cause)
no_repository_of files (Err open_fault.BadBase) none cause = absurd (no_format files none cause.0)
no_repository_of files (Err (open_fault.Gap number)) none cause = absurd (no_format files none cause.0)
no_repository_of files (Err (open_fault.Shelf call)) none cause = inr tt
no_repository_of files (Err open_fault.NoMemory) none cause = inr tt

unknown_format_of : (files : Files) (result : Result Found OpenFault) → HasOtherFormat files → LookCause files result → (result ≡ Err open_fault.UnknownFormat) ⊎ OpenEnds result
unknown_format_of files (Ok found) other cause = absurd (two_formats files other cause.format)
unknown_format_of files (Err open_fault.NoStore) other cause = absurd (no_other files cause other)
unknown_format_of files (Err open_fault.UnknownFormat) other cause = inl refl
unknown_format_of files (Err open_fault.BadBase) other cause = absurd (two_formats files other cause.0)
unknown_format_of files (Err (open_fault.Gap number)) other cause = absurd (two_formats files other cause.0)
unknown_format_of files (Err (open_fault.Shelf call)) other cause = inr tt
unknown_format_of files (Err open_fault.NoMemory) other cause = inr tt

missing_run_of : (files : Files) (number : ℕ) (result : Result Found OpenFault) → HasFormat files → IsGap files number → LookCause files result → (result ≡ Err (open_fault.Gap number)) ⊎ OpenEnds result
missing_run_of files number (Ok found) format gap cause = absurd (no_gap files number gap cause)
missing_run_of files number (Err open_fault.NoStore) format gap cause = absurd (no_format files cause format)
missing_run_of files number (Err open_fault.UnknownFormat) format gap cause = absurd (two_formats files cause format)
missing_run_of files number (Err open_fault.BadBase) format gap cause = absurd (bad_or_gap files number cause.1 gap)
missing_run_of files number (Err (open_fault.Gap other)) format gap cause = inl (ap (λ (n : ℕ). Err (open_fault.Gap n)) (one_gap files number other gap cause.1))
missing_run_of files number (Err (open_fault.Shelf call)) format gap cause = inr tt
missing_run_of files number (Err open_fault.NoMemory) format gap cause = inr tt

bad_base_of : (files : Files) (result : Result Found OpenFault) → HasFormat files → HasBadBase files → LookCause files result → (result ≡ Err open_fault.BadBase) ⊎ OpenEnds result
bad_base_of files (Ok found) format bad cause = absurd (bad_or_good files bad cause.base)
bad_base_of files (Err open_fault.NoStore) format bad cause = absurd (no_format files cause format)
bad_base_of files (Err open_fault.UnknownFormat) format bad cause = absurd (two_formats files cause format)
bad_base_of files (Err open_fault.BadBase) format bad cause = inl refl
bad_base_of files (Err (open_fault.Gap number)) format bad cause = absurd (bad_or_gap files number bad cause.1)
bad_base_of files (Err (open_fault.Shelf call)) format bad cause = inr tt
bad_base_of files (Err open_fault.NoMemory) format bad cause = inr tt

pub at_told : (told : Option Folder) (P : Folder → Type 0) (Q : Type 0) → IsSomeAnd told P → ((s : Folder) → told ≡ Some s → P s → Q) → Q
at_told None P Q holds each = absurd holds
at_told (Some s) P Q holds each = each s refl holds

pub no_repository : (before after : Seen Folder) (result : Result Found OpenFault) → Opens before after result → IsSomeAnd before.told (λ s. s.disk.published format_name ≡ None) → (result ≡ Err open_fault.NoStore) ⊎ OpenEnds result
no_repository before after result look holds = at_told before.told _ _ holds (λ s is none. no_repository_of s.disk.published result none (look_cause before after s result is look))

pub unknown_format : (before after : Seen Folder) (result : Result Found OpenFault) → Opens before after result → IsSomeAnd before.told (λ s. HasOtherFormat s.disk.published) → (result ≡ Err open_fault.UnknownFormat) ⊎ OpenEnds result
unknown_format before after result look holds = at_told before.told _ _ holds (λ s is other. unknown_format_of s.disk.published result other (look_cause before after s result is look))

pub missing_run : (before after : Seen Folder) (result : Result Found OpenFault) (number : ℕ) → Opens before after result → IsSomeAnd before.told (λ s. HasFormat s.disk.published × IsGap s.disk.published number) → (result ≡ Err (open_fault.Gap number)) ⊎ OpenEnds result
missing_run before after result number look holds = at_told before.told _ _ holds (λ s is both. missing_run_of s.disk.published number result both.0 both.1 (look_cause before after s result is look))

pub bad_base : (before after : Seen Folder) (result : Result Found OpenFault) → Opens before after result → IsSomeAnd before.told (λ s. HasFormat s.disk.published × HasBadBase s.disk.published) → (result ≡ Err open_fault.BadBase) ⊎ OpenEnds result
bad_base before after result look holds = at_told before.told _ _ holds (λ s is both. bad_base_of s.disk.published result both.0 both.1 (look_cause before after s result is look))

-- ---- the other steps

pub already_here : (before after : Seen Folder) (result : Result (Unit {0}) InitFault) → Makes before after result → IsSomeAnd before.told (λ s. IsSome (s.disk.published format_name)) → (result ≡ Err init_fault.Exists) ⊎ InitEnds result
already_here before after (Ok value) makes holds = at_told before.told _ _ holds (λ s is some.
    let none = look_of before.told after.told s is (λ f. f.disk.published format_name ≡ None) _ makes.made (λ t step. step.absent) in
    absurd (none_or_some (s.disk.published format_name) none some))
already_here before after (Err init_fault.Exists) makes holds = inl refl
already_here before after (Err (init_fault.Shelf call)) makes holds = inr tt

pub full : (result : Result (Unit {0}) RunsFault) → TakesRun most_runs result → result ≡ Err Full
full (Ok value) takes = absurd (omega (arith, takes.few))
full (Err fault) takes = ap (λ (f : RunsFault). Err f) takes.full.0

pub no_runs : (question : Question) (result : Result (Unit {0}) RunsFault) → HasRunFor question 0 result → OfLastRun question → result ≡ Err NoRuns
no_runs question (Ok value) has last = absurd (omega (arith, has.some last))
no_runs question (Err fault) has last = ap (λ (f : RunsFault). Err f) has.none.0

told_all : (a b : Option (List ℕ)) (bytes read : List ℕ) → a ≡ Some bytes → Consumes a b read → IsAtEnd b → bytes ≡ read
told_all None b bytes read is took ends = absurd (cc)
told_all (Some x) None bytes read is took ends = absurd took
told_all (Some x) (Some y) bytes read is took ends = let same : x ≡ bytes = cc in sym same ∙ took ∙ ap (λ (l : List ℕ). read ++ l) ends ∙ append-nil read

at_bytes : (told : Option (List ℕ)) (P : List ℕ → Type 0) (Q : Type 0) → IsSomeAnd told P → ((bytes : List ℕ) → told ≡ Some bytes → P bytes → Q) → Q
at_bytes None P Q holds each = absurd holds
at_bytes (Some bytes) P Q holds each = each bytes refl holds

not_read : (before after : Fed) (rows : List Row) → RecordsAll rows before after → IsSomeAnd before.input.told (λ bytes. most_bytes < length bytes) → ⊥
not_read before after rows all holds =
    let (read, input, recorded) = all.recorded in
    at_bytes before.input.told _ ⊥ holds (λ bytes is longer.
    let same = told_all before.input.told after.input.told bytes read is input.read input.at_end in
    omega (arith, longer, input.size, ap length same))

pub too_long : (before after : Fed) (result : Result (List Row) RecordFault) → Records before after result → IsSomeAnd before.input.told (λ bytes. most_bytes < length bytes) → (result ≡ Err record_fault.TooLong) ⊎ RecordEnds result
too_long before after (Ok rows) records holds = absurd (not_read before after rows records.recorded holds)
too_long before after (Err (record_fault.Shelf call)) records holds = inr tt
too_long before after (Err record_fault.Input) records holds = inr tt
too_long before after (Err record_fault.TooLong) records holds = inl refl
too_long before after (Err record_fault.Site) records holds = inr tt
too_long before after (Err (record_fault.NoFile name)) records holds = absurd records.refused
too_long before after (Err (record_fault.FileTooLong name)) records holds = absurd records.refused
too_long before after (Err record_fault.NoMemory) records holds = inr tt

-- ---- the caches

pub caches_not_kept : (number : ℕ) (rows : List Row) (before after : Seen Folder) (result : Result (Unit {0}) TellFault) → Refreshes number rows before after result → after.faults ≢ before.faults → result ≡ Err tell_fault.Shelf
caches_not_kept number rows before after (Ok done) refreshes differ = absurd (differ (refreshes.count.stands refl))
caches_not_kept number rows before after (Err tell_fault.Shelf) refreshes differ = refl
caches_not_kept number rows before after (Err tell_fault.NoMemory) refreshes differ = absurd (differ (refreshes.count.stands refl))

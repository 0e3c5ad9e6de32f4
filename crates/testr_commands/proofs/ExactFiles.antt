-- Where a file among the names is missing or too long, behind others that are neither, it is the one that is refused.
use Rattle.std.proofs.Common.{◌≡◌, ◌<◌, ◌≤◌, ℕ, ◌⊎◌, inl, inr, Option, None, Some, IfSome, IsSomeAnd, All, Result, Ok, Err, List, [], ◌∷◌, ◌++◌, length, map, refl, sym, subst, ◌∙◌}
use Rattle.std.proofs.lemmas.List.Elements.{All-nil, All-cons, All-head, All-tail}
use Rattle.edge_io.specs.Disk.{Files}
use Rattle.edge_io.specs.Limits.{most_bytes}
use Rattle.outcome_fold.specs.declared.row.Row.{Row}
use Rattle.command_steps.specs.declared.input_recorder.RecordFault.{RecordFault}
use Rattle.command_steps.specs.declared.input_recorder.RecordFault.TheVariants as record_fault
use Rattle.testr_commands.specs.Exact.{RecordEnds, IsNoFile, IsFileTooLong}
use Rattle.command_steps.specs.Files.{RecordsInTurn, RecordsAllFiles, RecordsFiles, StopsAtFile}
use Rattle.command_steps.specs.Outside.{Filed}
use Rattle.testr_commands.proofs.CauseLaws.{IsShort, short_at, not_absent, not_both}

-- what was recorded was there, and not too long
all_short : (files : Files) (names sources : List (List ℕ)) → map files names ≡ map (λ bytes. Some bytes) sources → All (λ bytes. length bytes ≤ most_bytes) sources → All (IsShort files) names
all_short files [] sources are sizes = All-nil (IsShort files)
all_short files (name ∷ names) [] are sizes = cc
all_short files (name ∷ names) (bytes ∷ sources) are sizes =
    let here : files name ≡ Some bytes = cc in
    let rest : map files names ≡ map (λ bytes. Some bytes) sources = cc in
    let size : length bytes ≤ most_bytes = All-head (λ bytes. length bytes ≤ most_bytes) bytes sources sizes in
    All-cons (IsShort files) name names
    (subst (λ (o : Option (List ℕ)). IsSomeAnd o (λ bytes. length bytes ≤ most_bytes)) (sym here) size)
    (all_short files names sources rest (All-tail (λ bytes. length bytes ≤ most_bytes) bytes sources sizes))

recorded_short : (names : List (List ℕ)) (a b : Filed) (run : List ℕ) (files : Files) → a.site.told ≡ Some files → RecordsInTurn names a b run → All (IsShort files) names
recorded_short names a b run files told turn = all_short files names turn.sources (subst (λ (o : Option Files). IfSome o (λ files. map files names ≡ map (λ bytes. Some bytes) turn.sources)) told turn.are_files.are) turn.sizes

-- two lists are parted at the same place, where all before it is so, and what stands there is not
same_place : (P : List ℕ → Type 0) (front back done rest : List (List ℕ)) (name stop : List ℕ) → front ++ name ∷ back ≡ done ++ stop ∷ rest → All P front → All P done → (P name → ⊥) → (P stop → ⊥) → stop ≡ name
same_place P [] back [] rest name stop same fronts dones bad stopped = cc
same_place P [] back (d ∷ done) rest name stop same fronts dones bad stopped =
    let here : d ≡ name = cc in
    absurd (bad (subst P here (All-head P d done dones)))
same_place P (f ∷ front) back [] rest name stop same fronts dones bad stopped =
    let here : f ≡ stop = cc in
    absurd (stopped (subst P here (All-head P f front fronts)))
same_place P (f ∷ front) back (d ∷ done) rest name stop same fronts dones bad stopped =
    let later : front ++ name ∷ back ≡ done ++ stop ∷ rest = cc in
    same_place P front back done rest name stop later (All-tail P f front fronts) (All-tail P d done dones) bad stopped

long_not_none : (file : Option (List ℕ)) → file ≡ None → IsSomeAnd file (λ bytes. most_bytes < length bytes) → ⊥
long_not_none None none long = long
long_not_none (Some bytes) none long = cc

module _ (front back : List (List ℕ)) (name : List ℕ) (a b : Filed) (files : Files) (told : a.site.told ≡ Some files) (short : All (IsShort files) front) where
  module _ (bad : IsShort files name → ⊥) where
    not_done : (rows : List Row) → RecordsAllFiles (front ++ name ∷ back) rows a b → ⊥
    not_done rows all = bad (short_at files front name back (recorded_short (front ++ name ∷ back) a b all.run files told all.recorded))

    stops_here : (fault : RecordFault) (stop : StopsAtFile (front ++ name ∷ back) a b fault) → (IsShort files stop.name → ⊥) → stop.name ≡ name
    stops_here fault stop stopped = same_place (IsShort files) front back stop.done stop.rest name stop.name stop.names_are short (recorded_short stop.done a stop.between stop.run files told stop.recorded) bad stopped

  -- what is told of the file at which it stops
  of_stop : (P : Option (List ℕ) → Type 0) (fault : RecordFault) (stop : StopsAtFile (front ++ name ∷ back) a b fault) → IfSome stop.between.site.told (λ files. P (files stop.name)) → P (files stop.name)
  of_stop P fault stop cause = subst (λ (o : Option Files). IfSome o (λ files. P (files stop.name))) (stop.recorded.files ∙ told) cause

  module _ (absent : files name ≡ None) where
    bad_absent : IsShort files name → ⊥
    bad_absent good = not_absent (files name) good absent

    no_file_at : (fault : RecordFault) → StopsAtFile (front ++ name ∷ back) a b fault → IsNoFile {T = List Row} name (Err fault) ⊎ RecordEnds {T = List Row} (Err fault)
    no_file_at (record_fault.Shelf call) stop = inr tt
    no_file_at record_fault.Input stop = absurd stop.cause
    no_file_at record_fault.TooLong stop = absurd stop.cause
    no_file_at record_fault.Site stop = inr tt
    no_file_at (record_fault.NoFile given) stop =
        let none = of_stop (λ o. o ≡ None) (record_fault.NoFile given) stop stop.cause.1 in
        inl (stop.cause.0 ∙ stops_here bad_absent (record_fault.NoFile given) stop (λ good. not_absent (files stop.name) good none))
    no_file_at (record_fault.FileTooLong given) stop =
        let long = of_stop (λ o. IsSomeAnd o (λ bytes. most_bytes < length bytes)) (record_fault.FileTooLong given) stop stop.cause.1 in
        let here : stop.name ≡ name = stops_here bad_absent (record_fault.FileTooLong given) stop (λ good. not_both (files stop.name) good long) in
        absurd (long_not_none (files name) absent (subst (λ (n : List ℕ). IsSomeAnd (files n) (λ bytes. most_bytes < length bytes)) here long))
    no_file_at record_fault.NoMemory stop = inr tt

    no_file_of : (result : Result (List Row) RecordFault) → RecordsFiles (front ++ name ∷ back) a b result → IsNoFile name result ⊎ RecordEnds result
    no_file_of (Ok rows) records = absurd (not_done bad_absent rows records.recorded)
    no_file_of (Err fault) records = elim records.refused [
      | inl stop ↦ no_file_at fault stop
      | inr wanting ↦ subst (λ (f : RecordFault). IsNoFile {T = List Row} name (Err f) ⊎ RecordEnds {T = List Row} (Err f)) (sym wanting.0) (inr tt)
    ]

  module _ (long : IsSomeAnd (files name) (λ bytes. most_bytes < length bytes)) where
    bad_long : IsShort files name → ⊥
    bad_long good = not_both (files name) good long

    too_long_at : (fault : RecordFault) → StopsAtFile (front ++ name ∷ back) a b fault → IsFileTooLong {T = List Row} name (Err fault) ⊎ RecordEnds {T = List Row} (Err fault)
    too_long_at (record_fault.Shelf call) stop = inr tt
    too_long_at record_fault.Input stop = absurd stop.cause
    too_long_at record_fault.TooLong stop = absurd stop.cause
    too_long_at record_fault.Site stop = inr tt
    too_long_at (record_fault.NoFile given) stop =
        let none = of_stop (λ o. o ≡ None) (record_fault.NoFile given) stop stop.cause.1 in
        let here : stop.name ≡ name = stops_here bad_long (record_fault.NoFile given) stop (λ good. not_absent (files stop.name) good none) in
        absurd (long_not_none (files name) (subst (λ (n : List ℕ). files n ≡ None) here none) long)
    too_long_at (record_fault.FileTooLong given) stop =
        let more = of_stop (λ o. IsSomeAnd o (λ bytes. most_bytes < length bytes)) (record_fault.FileTooLong given) stop stop.cause.1 in
        inl (stop.cause.0 ∙ stops_here bad_long (record_fault.FileTooLong given) stop (λ good. not_both (files stop.name) good more))
    too_long_at record_fault.NoMemory stop = inr tt

    too_long_of : (result : Result (List Row) RecordFault) → RecordsFiles (front ++ name ∷ back) a b result → IsFileTooLong name result ⊎ RecordEnds result
    too_long_of (Ok rows) records = absurd (not_done bad_long rows records.recorded)
    too_long_of (Err fault) records = elim records.refused [
      | inl stop ↦ too_long_at fault stop
      | inr wanting ↦ subst (λ (f : RecordFault). IsFileTooLong {T = List Row} name (Err f) ⊎ RecordEnds {T = List Row} (Err f)) (sym wanting.0) (inr tt)
    ]

at_files : (told : Option Files) (P : Files → Type 0) (Q : Type 0) → IsSomeAnd told P → ((files : Files) → told ≡ Some files → P files → Q) → Q
at_files None P Q holds each = absurd holds
at_files (Some files) P Q holds each = each files refl holds

pub no_file : (front back : List (List ℕ)) (name : List ℕ) (before after : Filed) (result : Result (List Row) RecordFault) → RecordsFiles (front ++ name ∷ back) before after result → IsSomeAnd before.site.told (λ files. All (λ n. IsSomeAnd (files n) (λ bytes. length bytes ≤ most_bytes)) front × (files name ≡ None)) → IsNoFile name result ⊎ RecordEnds result
no_file front back name before after result records holds = at_files before.site.told _ _ holds (λ files told both. no_file_of front back name before after files told both.0 both.1 result records)

pub file_too_long : (front back : List (List ℕ)) (name : List ℕ) (before after : Filed) (result : Result (List Row) RecordFault) → RecordsFiles (front ++ name ∷ back) before after result → IsSomeAnd before.site.told (λ files. All (λ n. IsSomeAnd (files n) (λ bytes. length bytes ≤ most_bytes)) front × IsSomeAnd (files name) (λ bytes. most_bytes < length bytes)) → IsFileTooLong name result ⊎ RecordEnds result
file_too_long front back name before after result records holds = at_files before.site.told _ _ holds (λ files told both. too_long_of front back name before after files told both.0 both.1 result records)

-- The reads of a file as those of an input.
use Rattle.std.proofs.Common.{◌≡◌, ◌⊎◌, inl, inr, ℕ, ◌+◌, ◌<◌, ◌≤◌, Bool, Option, Some, None, IfSome, Result, Ok, Err, List, [], ◌++◌, take, drop, length, refl, sym, ap, subst, ◌∙◌, arith, append-nil}
use Rattle.std.specs.Option.{option_map}
use Rattle.std.specs.Result.{IsErrAnd}
use Rattle.std.specs.Io.KnownBytes.{Consumes, Appends, IsAtEnd}
use Rattle.std.proofs.lemmas.List.{take-append-drop, drop-drop, drop_all}
use Rattle.edge_io.specs.Disk.{Files}
use Rattle.edge_io.specs.Sites.{Finds}
use Rattle.edge_io.specs.declared.site.Found.{Found}
use Rattle.edge_io.specs.declared.site.Found.TheVariants.{Read, Absent}
use Rattle.edge_io.specs.Seen.{Seen}
use Rattle.edge_io.specs.Limits.{most_bytes}
use Rattle.filter_cli.specs.FileReads.{left_of_file, file_input, ReadsFileOn, IsAbsent, IsThere, SaysWhether, FiltersFile, LeavesRest, HasReadCause}
use Rattle.filter_cli.specs.Outside.{Reach}
use Rattle.filter_cli.specs.Pipe.{Pipe, pipe}
use Rattle.filter_cli.specs.Pumping.{StopsBefore}
use Rattle.filter_cli.specs.declared.filter.StreamEnd.{StreamEnd}
use Rattle.filter_cli.specs.declared.file_loop.FileFault.{FileFault}
use Rattle.filter_cli.specs.declared.file_loop.FileFault.TheVariants as file_fault
use Rattle.filter_cli.proofs.PipeLemmas.{rose_later}

-- what is left of a file's bytes from a place on
abbrev left_of : (place : ℕ) → Option (List ℕ) → Option (List ℕ)
left_of place file = option_map (drop place) file

took_on : (file : Option (List ℕ)) (place count : ℕ) (buf : List ℕ) → Finds file place buf (Read count) → Consumes (left_of place file) (left_of (place + count) file) (take count buf)
took_on None place count buf found = absurd found
took_on (Some bytes) place count buf part =
    sym (take-append-drop count (drop place bytes)) ∙ (λ i. sym part.same i ++ drop-drop count place bytes i)

ends_on : (file : Option (List ℕ)) (place count : ℕ) (buf : List ℕ) → Finds file place buf (Read count) → count ≡ 0 → 0 < length buf → IsAtEnd (left_of (place + count) file)
ends_on None place count buf found none some = absurd found
ends_on (Some bytes) place count buf part none some =
    let short = part.some none some in
    drop_all (place + count) bytes (omega (arith, short))

there_on : (file : Option (List ℕ)) (place count : ℕ) (buf : List ℕ) → Finds file place buf (Read count) → file ≡ None → ⊥
there_on None place count buf found none = found
there_on (Some bytes) place count buf found none = cc

read_of : (name : List ℕ) (told : Option Files) (place count : ℕ) (buf : List ℕ) → IfSome told (λ files. Finds (files name) place buf (Read count)) → ReadsFileOn name place told told buf count
read_of name None place count buf found = record { took = tt; ends = λ none some. tt; there = tt }
read_of name (Some files) place count buf found = record { took = took_on (files name) place count buf found; ends = ends_on (files name) place count buf found; there = there_on (files name) place count buf found }

pub reads_on : (name : List ℕ) (told now : Option Files) (place count : ℕ) (buf : List ℕ) (found : Found) → now ≡ told → found ≡ Read count → IfSome told (λ files. Finds (files name) place buf found) → ReadsFileOn name place told now buf count
reads_on name told now place count buf found same is finds =
    subst (λ (o : Option Files). ReadsFileOn name place told o buf count) (sym same)
    (read_of name told place count buf (subst (λ (f : Found). IfSome told (λ files. Finds (files name) place buf f)) is finds))

pub absent_of : (name : List ℕ) (told : Option Files) (place : ℕ) (buf : List ℕ) (found : Found) → found ≡ Absent → IfSome told (λ files. Finds (files name) place buf found) → IsAbsent name told
absent_of name told place buf found is finds = subst (λ (f : Found). IfSome told (λ files. Finds (files name) place buf f)) is finds

pub none_there : (name : List ℕ) (told : Option Files) (P : Type 0) → IsThere name told → IfSome told (λ files. files name ≡ None → P)
none_there name None P there = tt
none_there name (Some files) P there = λ none. absurd (there none)

pub none_written : (name : List ℕ) (told : Option Files) (P : Type 0) → P → IfSome told (λ files. files name ≡ None → P)
none_written name None P written = tt
none_written name (Some files) P written = λ none. written

-- nothing is told of a file that is not there
pub absent_untold : (name : List ℕ) (told : Option Files) (place : ℕ) → IsAbsent name told → left_of_file name place told ≡ None
absent_untold name None place absent = refl
absent_untold name (Some files) place absent = ap (λ (o : Option (List ℕ)). option_map (drop place) o) absent

-- ---- what is left as it was

pub there_as : (name : List ℕ) (told now : Option Files) → now ≡ told → IsThere name now → IsThere name told
there_as name told now same there = subst (IsThere name) same there

-- a file that is there, and so nothing is said of what is written where it is not
pub rest_there : (name : List ℕ) (before after : Reach) → after.pipe.input ≡ before.pipe.input → after.site.told ≡ before.site.told → IsThere name before.site.told → LeavesRest name before after
rest_there name before after input files there = record { input = input; files = files; nothing = none_there name before.site.told _ there }

-- nothing was written yet, or the file is there
pub rest_begun : (name : List ℕ) (before after : Reach) → after.pipe.input ≡ before.pipe.input → after.site.told ≡ before.site.told → (after.pipe.out ≡ before.pipe.out) ⊎ IsThere name before.site.told → LeavesRest name before after
rest_begun name before after input files (inl same) = record { input = input; files = files; nothing = none_written name before.site.told _ same }
rest_begun name before after input files (inr there) = rest_there name before after input files there

-- a read that gave no bytes says whether the file is there
pub refused_says : (name : List ℕ) (first before after : Seen Files) (fault : FileFault) → HasReadCause name before after fault → before.told ≡ first.told → SaysWhether name first.told (Err fault)
refused_says name first before after file_fault.Read cause same = tt
refused_says name first before after file_fault.NoFile cause same = subst (IsAbsent name) same cause.0
refused_says name first before after file_fault.TooLong cause same = absurd cause
refused_says name first before after file_fault.Output cause same = absurd cause
refused_says name first before after file_fault.NoMemory cause same = absurd cause

-- a read that gave no bytes, where these were fed and this text was written
pub read_refused : (inside : List ℕ → Bool) (name : List ℕ) (sees : List ℕ → List ℕ → Type 0) (ends : List ℕ → List ℕ → ℕ → Type 0) (first before after : Seen Files) (old new : Seen (List ℕ)) (place : ℕ) (fed shown : List ℕ) (fault : FileFault) → HasReadCause name before after fault → after.told ≡ before.told → before.faults ≡ first.faults
    → Consumes (left_of_file name 0 first.told) (left_of_file name place before.told) fed → Appends old.told new.told shown → length fed ≤ most_bytes → sees fed shown → new.faults ≡ old.faults
    → FiltersFile inside sees ends (pipe (file_input name 0 first) old) (pipe (file_input name place after) new) (Err fault)
read_refused inside name sees ends first before after old new place fed shown file_fault.Read cause later count took wrote size seen out = record {
  bytes = fed;
  text = shown;
  moved = record { took = subst (λ (o : Option Files). Consumes (left_of_file name 0 first.told) (left_of_file name place o) fed) (sym later) took; wrote = wrote };
  size = size;
  seen = seen;
  rose = rose_later _ _ _ count cause;
  out = out;
}
read_refused inside name sees ends first before after old new place fed shown file_fault.NoFile cause later count took wrote size seen out = record {
  front = fed;
  few = size;
  piece = [];
  short = omega arith;
  text = shown;
  moved = record { took = rw append-nil (subst (λ (o : Option Files). Consumes (left_of_file name 0 first.told) (left_of_file name place o) fed) (sym later) took); wrote = wrote };
  seen = seen;
  faults = record { input = cause.1 ∙ count; out = out };
}
read_refused inside name sees ends first before after old new place fed shown file_fault.TooLong cause later count took wrote size seen out = absurd cause
read_refused inside name sees ends first before after old new place fed shown file_fault.Output cause later count took wrote size seen out = absurd cause
read_refused inside name sees ends first before after old new place fed shown file_fault.NoMemory cause later count took wrote size seen out = absurd cause

-- an exit by `?` is for want of memory, and the file is there
pub stopped_says : (name : List ℕ) (told : Option Files) (result : Result StreamEnd FileFault) → IsErrAnd result (λ fault. fault ≡ file_fault.NoMemory) → IsThere name told → SaysWhether name told result
stopped_says name told (Ok end) is there = absurd is
stopped_says name told (Err fault) is there = subst (λ (f : FileFault). SaysWhether name told (Err f)) (sym is) there

-- what an exit by `?` did
pub stopped_file : (inside : List ℕ → Bool) (sees : List ℕ → List ℕ → Type 0) (ends : List ℕ → List ℕ → ℕ → Type 0) (a b : Pipe) (result : Result StreamEnd FileFault) → IsErrAnd result (λ fault. fault ≡ file_fault.NoMemory) → StopsBefore sees a b → FiltersFile inside sees ends a b result
stopped_file inside sees ends a b (Ok end) is s = absurd is
stopped_file inside sees ends a b (Err fault) is s = subst (λ (f : FileFault). FiltersFile inside sees ends a b (Err f)) (sym is) s

-- A filter whose output becomes a file (docs/COMMANDS.md, "A filter's output as a file").
use Rattle.std.specs.Prelude.{◌≡◌, ◌⊎◌, ◌<◌, ◌≤◌, ℕ, List, Err}
use Rattle.edge_io.specs.Causes.{Rose}
use Rattle.edge_io.specs.Disk.{Files}
use Rattle.edge_io.specs.Seen.{Seen}
use Rattle.filter_cli.specs.Outside as plain
use Rattle.filter_cli.specs.Program.{FilterTells}
use Rattle.filter_cli.specs.Promises.{FilterPromises}
use Rattle.filter_cli.specs.Refusals.{filter_name_in, pump_text}
use Rattle.filter_cli.specs.declared.refusal.Refusal.{Refusal}
use Rattle.filter_cli.specs.declared.refusal.Refusal.TheVariants.{Pump}
use Rattle.filter_cli.specs.declared.pump_loop.PumpFault.TheVariants as pump_fault
use Rattle.new_files.specs.Naming.{IsEmptyDraft, TakesName}

-- the outside at one moment, with files in the place of the output
pub record FileOutside : Type 0 where
  pub site : Seen Files
  pub input : Seen (List ℕ)
  pub files : Seen Files
  pub errors : Seen (List ℕ)

-- the outside of which these four parts are seen
abbrev pub file_outside : Seen Files → Seen (List ℕ) → Seen Files → Seen (List ℕ) → FileOutside
file_outside site input files errors = record { site = site; input = input; files = files; errors = errors }

-- what stands behind the filter's name where the output failed
abbrev pub output_fault_text : List ℕ
output_fault_text = pump_text pump_fault.Output

-- that the output failed is told, and is the status
abbrev pub TellsFault : List (List ℕ) → Seen (List ℕ) → Seen (List ℕ) → ℕ → Type 0
TellsFault words = FilterTells (filter_name_in words) (Err (Pump pump_fault.Output))

-- each name holds what it did
abbrev pub HoldsSame : Seen Files → Seen Files → Type 0
HoldsSame before after = after.told ≡ before.told

-- no file could be begun: nothing was read, and each name holds what it did
pub record IsNotBegun (words : List (List ℕ)) (before after : FileOutside) (answer : ℕ) : Type 0 where
  pub site : after.site ≡ before.site
  pub input : after.input ≡ before.input
  pub files : HoldsSame before.files after.files
  pub rose : Rose before.files.faults after.files.faults
  pub told : TellsFault words before.errors after.errors answer

-- What is done with a draft, by the status of the filter that wrote it.
-- it took its name, whole
pub record IsNamed (name : List ℕ) (status : ℕ) (written : Seen (List ℕ)) (before after : Seen Files) (told now : Seen (List ℕ)) (answer : ℕ) : Type 0 where
  pub good : status ≤ 1
  pub taken : TakesName name written.told before.told after.told
  pub errors : now ≡ told
  pub code : answer ≡ status

-- it could not take its name
pub record IsNotNamed (words : List (List ℕ)) (status : ℕ) (before after : Seen Files) (told now : Seen (List ℕ)) (answer : ℕ) : Type 0 where
  pub good : status ≤ 1
  pub files : HoldsSame before after
  pub rose : Rose before.faults after.faults
  pub line : TellsFault words told now answer

-- it was given up, since the filter refused
pub record IsGivenUp (status : ℕ) (before after : Seen Files) (told now : Seen (List ℕ)) (answer : ℕ) : Type 0 where
  pub bad : 1 < status
  pub files : HoldsSame before after
  pub faults : after.faults ≡ before.faults
  pub errors : now ≡ told
  pub code : answer ≡ status

-- what became of the draft: it took its name, or it could not take it, or it was given up
abbrev pub Finishes : (words : List (List ℕ)) (name : List ℕ) (status : ℕ) (written : Seen (List ℕ)) (before after : Seen Files) (told now : Seen (List ℕ)) (answer : ℕ) → Type 0
Finishes words name status written before after told now answer =
    IsNamed name status written before after told now answer
    ⊎ (IsNotNamed words status before after told now answer
    ⊎ IsGivenUp status before after told now answer)

-- A draft was begun, the filter wrote into it what it writes to any output, and then it took its name or was given up.
pub record IsBegun (words : List (List ℕ)) (name : List ℕ) (before after : FileOutside) (answer : ℕ) : Type 0 where
  -- the draft, before the filter and behind it, and what was told by then
  pub draft : Seen (List ℕ)
  pub written : Seen (List ℕ)
  pub told : Seen (List ℕ)
  pub begun : Seen Files
  pub status : ℕ
  pub empty : IsEmptyDraft draft.told
  pub stays : HoldsSame before.files begun
  pub filtered : FilterPromises words (plain.filter_outside before.site before.input draft before.errors) (plain.filter_outside after.site after.input written told) status
  pub finished : Finishes words name status written begun after.files told after.errors answer

-- one of the two
abbrev pub FilesOutput : (words : List (List ℕ)) (name : List ℕ) (before after : FileOutside) (answer : ℕ) → Type 0
FilesOutput words name before after answer = IsNotBegun words before after answer ⊎ IsBegun words name before after answer

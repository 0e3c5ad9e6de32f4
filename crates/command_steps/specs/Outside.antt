-- The outside at one moment, and the parts of it that the commands touch.
use Rattle.std.specs.Prelude.{◌≡◌, ℕ, Option, None, Some, List, refl}
use Rattle.edge_io.specs.Causes.{Rose}
use Rattle.edge_io.specs.Disk.{Files, Folder}
use Rattle.edge_io.specs.Seen.{Seen}
use Rattle.edge_io.specs.Spawners.{Spawning}
use Rattle.command_steps.specs.Steps.{Part}

-- all that a command may touch, as it is seen at one moment
pub record Outside : Type 0 where
  pub folder : Seen Folder
  pub site : Seen Files
  pub spawner : Seen Spawning
  pub input : Seen (List ℕ)
  pub out : Seen (List ℕ)
  pub errors : Seen (List ℕ)

-- the outside that is seen so
abbrev pub outside : Seen Folder → Seen Files → Seen Spawning → Seen (List ℕ) → Seen (List ℕ) → Seen (List ℕ) → Outside
outside folder site spawner input out errors = record { folder = folder; site = site; spawner = spawner; input = input; out = out; errors = errors }

-- nothing but the sinks is touched
pub record LeavesOutside (before after : Outside) : Type 0 where
  pub folder : after.folder ≡ before.folder
  pub site : after.site ≡ before.site
  pub spawner : after.spawner ≡ before.spawner
  pub input : after.input ≡ before.input

-- all but the errors' sink: what a command may touch
pub record Work : Type 0 where
  pub folder : Seen Folder
  pub site : Seen Files
  pub spawner : Seen Spawning
  pub input : Seen (List ℕ)
  pub out : Seen (List ℕ)

-- the outside without the sink of errors, which is seen so
abbrev pub work : Seen Folder → Seen Files → Seen Spawning → Seen (List ℕ) → Seen (List ℕ) → Work
work folder site spawner input out = record { folder = folder; site = site; spawner = spawner; input = input; out = out }

-- the outside without the sink of errors
abbrev pub work_of : Outside → Work
work_of w = work w.folder w.site w.spawner w.input w.out

-- what a question touches
pub record Shown : Type 0 where
  pub folder : Seen Folder
  pub out : Seen (List ℕ)

-- folder and output, which are seen so
abbrev pub shown : Seen Folder → Seen (List ℕ) → Shown
shown folder out = record { folder = folder; out = out }

-- what a recording of the input touches
pub record Fed : Type 0 where
  pub folder : Seen Folder
  pub input : Seen (List ℕ)

-- folder and input, which are seen so
abbrev pub fed : Seen Folder → Seen (List ℕ) → Fed
fed folder input = record { folder = folder; input = input }

-- what a recording of files touches
pub record Filed : Type 0 where
  pub folder : Seen Folder
  pub site : Seen Files

-- folder and files, which are seen so
abbrev pub filed : Seen Folder → Seen Files → Filed
filed folder site = record { folder = folder; site = site }

-- what a start of configured programs touches: the spawner, and the files, one of which is the configuration
pub record Hands : Type 0 where
  pub spawner : Seen Spawning
  pub site : Seen Files

-- spawner and files, which are seen so
abbrev pub hands : Seen Spawning → Seen Files → Hands
hands spawner site = record { spawner = spawner; site = site }

-- ---- the parts

-- the folder as a part of the work
abbrev pub work_folder : Part Work (Seen Folder)
work_folder = record { of = λ w. w.folder; put = λ w folder. record w { folder = folder }; of_put = λ _ _. refl }

-- the files as a part of the work
abbrev pub work_site : Part Work (Seen Files)
work_site = record { of = λ w. w.site; put = λ w site. record w { site = site }; of_put = λ _ _. refl }

-- the spawner as a part of the work
abbrev pub work_spawner : Part Work (Seen Spawning)
work_spawner = record { of = λ w. w.spawner; put = λ w spawner. record w { spawner = spawner }; of_put = λ _ _. refl }

-- spawner and files as a part of the work
abbrev pub work_hands : Part Work Hands
work_hands = record { of = λ w. hands w.spawner w.site; put = λ w part. record w { spawner = part.spawner; site = part.site }; of_put = λ _ _. refl }

-- folder and input as a part of the work
abbrev pub work_fed : Part Work Fed
work_fed = record { of = λ w. fed w.folder w.input; put = λ w part. record w { folder = part.folder; input = part.input }; of_put = λ _ _. refl }

-- folder and files as a part of the work
abbrev pub work_filed : Part Work Filed
work_filed = record { of = λ w. filed w.folder w.site; put = λ w part. record w { folder = part.folder; site = part.site }; of_put = λ _ _. refl }

-- the output as a part of the work
abbrev pub work_out : Part Work (Seen (List ℕ))
work_out = record { of = λ w. w.out; put = λ w out. record w { out = out }; of_put = λ _ _. refl }

-- folder and output as a part of the work
abbrev pub work_shown : Part Work Shown
work_shown = record { of = λ w. shown w.folder w.out; put = λ w part. record w { folder = part.folder; out = part.out }; of_put = λ _ _. refl }

-- the folder as a part of folder and output
abbrev pub shown_folder : Part Shown (Seen Folder)
shown_folder = record { of = λ w. w.folder; put = λ w folder. record w { folder = folder }; of_put = λ _ _. refl }

-- the output as a part of folder and output
abbrev pub shown_out : Part Shown (Seen (List ℕ))
shown_out = record { of = λ w. w.out; put = λ w out. record w { out = out }; of_put = λ _ _. refl }

-- ---- counts of faults

-- the parts that can fail
pub data Place : Type 0 where
  in_folder : Place
  in_site : Place
  in_spawner : Place
  in_input : Place
  in_out : Place

-- no count of faults differs
pub record SameCounts (before after : Work) : Type 0 where
  pub folder : after.folder.faults ≡ before.folder.faults
  pub site : after.site.faults ≡ before.site.faults
  pub spawner : after.spawner.faults ≡ before.spawner.faults
  pub input : after.input.faults ≡ before.input.faults
  pub out : after.out.faults ≡ before.out.faults

-- the count of this part rose, and the others stand; where no part is named all stand
abbrev pub RisesAt : Option Place → Work → Work → Type 0
RisesAt None before after = SameCounts before after
RisesAt (Some in_folder) before after = Rose before.folder.faults after.folder.faults × (after.site.faults ≡ before.site.faults) × (after.spawner.faults ≡ before.spawner.faults) × (after.input.faults ≡ before.input.faults) × (after.out.faults ≡ before.out.faults)
RisesAt (Some in_site) before after = Rose before.site.faults after.site.faults × (after.folder.faults ≡ before.folder.faults) × (after.spawner.faults ≡ before.spawner.faults) × (after.input.faults ≡ before.input.faults) × (after.out.faults ≡ before.out.faults)
RisesAt (Some in_spawner) before after = Rose before.spawner.faults after.spawner.faults × (after.folder.faults ≡ before.folder.faults) × (after.site.faults ≡ before.site.faults) × (after.input.faults ≡ before.input.faults) × (after.out.faults ≡ before.out.faults)
RisesAt (Some in_input) before after = Rose before.input.faults after.input.faults × (after.folder.faults ≡ before.folder.faults) × (after.site.faults ≡ before.site.faults) × (after.spawner.faults ≡ before.spawner.faults) × (after.out.faults ≡ before.out.faults)
RisesAt (Some in_out) before after = Rose before.out.faults after.out.faults × (after.folder.faults ≡ before.folder.faults) × (after.site.faults ≡ before.site.faults) × (after.spawner.faults ≡ before.spawner.faults) × (after.input.faults ≡ before.input.faults)

-- of one at least of the parts that can fail the count of faults rose
pub data SomeRose (before after : Work) : Type 0 where
  of_folder : Rose before.folder.faults after.folder.faults → SomeRose before after
  of_site : Rose before.site.faults after.site.faults → SomeRose before after
  of_spawner : Rose before.spawner.faults after.spawner.faults → SomeRose before after
  of_input : Rose before.input.faults after.input.faults → SomeRose before after
  of_out : Rose before.out.faults after.out.faults → SomeRose before after

-- What the search for causes did (docs/FORMATS.md, "Causes"): what was searched at each exit of a run, and what was said by then.
use Rattle.std.specs.Prelude.{◌≡◌, ◌⊎◌, ⊤, ℕ, Bool, true, false, Option, IfSome, List, [], ◌∷◌, ◌++◌, length, drop}
use Rattle.std.specs.Io.KnownBytes.{Appends}
use Rattle.std.specs.List.{filter}
use Rattle.edge_io.specs.Bytes.{AppendsPrefix}
use Rattle.edge_io.specs.Children.{Output}
use Rattle.edge_io.specs.Disk.{Folder}
use Rattle.edge_io.specs.Spawners.{Spawning}
use Rattle.edge_io.specs.Steps.{Goes, Stays}
use Rattle.outcome_fold.specs.Answers.{row_fails}
use Rattle.outcome_fold.specs.Rows.{rows_of}
use Rattle.packet_codec.specs.Lanes.{IsMerge}
use Rattle.packet_codec.specs.declared.event.Event.{Event}
use Rattle.suite_causes.specs.Analysis.{asked_for, AreSearched, HaveLines, UsesNoBroken}
use Rattle.suite_causes.specs.Searching.{StopsSearch}
use Rattle.suite_causes.specs.Suspects.{candidates_of, suspects_of}
use Rattle.suite_causes.specs.declared.cause_search.SearchFault.{SearchFault}
use Rattle.suite_causes.specs.declared.suspects.Suspect.{Suspect}
use Rattle.testr_conf.specs.Settings.{Settings}
use Rattle.worker_mux.specs.Outputs.{lists_asked}
use Rattle.command_steps.specs.Selecting.{Planned}

-- ---- what was searched, where the run's events are these

-- the tests that are searched
abbrev pub suspects_in : List Event → List Suspect
suspects_in events = suspects_of (filter row_fails (rows_of events))

-- the search for the next test came to no verdict: some of its probes were asked, and the one that comes next has no answer
abbrev pub StopsAt : Settings → List Event → (left : List Suspect) → Spawning → Spawning → Type 0
StopsAt settings events [] s t = ⊥
StopsAt settings events (one ∷ more) s t = (fault : SearchFault) × StopsSearch settings (candidates_of one.id one.lane events) one.id fault s t

-- The first tests were searched, one after another, and came to verdicts, whose lines these are. Then nothing more was started,
-- or the search for the next one came to no verdict.
pub record SearchesThen (settings : Settings) (events : List Event) (done left : List Suspect) (lines : List ℕ) (s t : Spawning) : Type 0 where
  pub between : Spawning
  pub searched : AreSearched settings events done lines s between
  pub ended : Stays between t ⊎ StopsAt settings events left between t

-- some first tests were searched, by one spawner to another, and these are the lines of those that came to a verdict
pub record SearchesFirsts (settings : Settings) (events : List Event) (lines : List ℕ) (a b : Option Spawning) : Type 0 where
  pub done : List Suspect
  pub left : List Suspect
  pub suspects_are : suspects_in events ≡ done ++ left
  pub have : HaveLines events done lines
  pub asked : Goes a b (SearchesThen settings events done left lines)

-- So it is at each exit behind the workers, where the folder is told, if causes are looked for. If not, nothing is started and no
-- line is said.
abbrev pub SearchesSome : (find_causes : Bool) → Settings → List Event → (lines : List ℕ) → Option Folder → (a b : Option Spawning) → Type 0
SearchesSome false settings events lines folder a b = (b ≡ a) × (lines ≡ [])
SearchesSome true settings events lines folder a b = IfSome folder (λ _. SearchesFirsts settings events lines a b)

-- all tests were searched, and these are their lines
pub record SearchesEach (settings : Settings) (events : List Event) (lines : List ℕ) (a b : Option Spawning) : Type 0 where
  pub have : HaveLines events (suspects_in events) lines
  pub asked : Goes a b (AreSearched settings events (suspects_in events) lines)

-- So it is where the run was done, and the folder is told, if causes are looked for.
abbrev pub SearchesAll : (find_causes : Bool) → Settings → List Event → (lines : List ℕ) → Option Folder → (a b : Option Spawning) → Type 0
SearchesAll false settings events lines folder a b = (b ≡ a) × (lines ≡ [])
SearchesAll true settings events lines folder a b = IfSome folder (λ _. SearchesEach settings events lines a b)

-- ---- what was printed

-- the output took a first part of the report, before anything was searched
pub record TakesReportPart (report lines : List ℕ) (worked now : Option Spawning) (old new : Option (List ℕ)) : Type 0 where
  pub none : now ≡ worked
  pub no_lines : lines ≡ []
  pub printed : AppendsPrefix old new report

-- the output took the report, and behind it a first part of the lines
pub record TakesLinePart (report lines : List ℕ) (old new : Option (List ℕ)) : Type 0 where
  pub part : List ℕ
  pub rest : List ℕ
  pub lines_are : lines ≡ part ++ rest
  pub printed : Appends old new (report ++ part)

-- the output took a first part of the report, before anything was searched, or the report and a first part of the lines
abbrev pub TakesFirst : (report lines : List ℕ) → (worked now : Option Spawning) → (old new : Option (List ℕ)) → Type 0
TakesFirst report lines worked now old new = TakesReportPart report lines worked now old new ⊎ TakesLinePart report lines old new

-- ---- completeness

-- each of the outputs that the searches for these tests use, one search after another, is that of a child that can be read to its
-- end and waited for
abbrev pub UseNoBroken : List Event → List Suspect → List Output → Type 0
UseNoBroken events [] outputs = ⊤
UseNoBroken events (one ∷ more) outputs =
    let candidates = candidates_of one.id one.lane events in
    UsesNoBroken one.id candidates outputs × UseNoBroken events more (drop (length (asked_for one.id candidates outputs)) outputs)

-- Behind the workers of this plan no probe's child is broken: in whichever order the packets of the workers come.
abbrev pub ProbesEnd : Planned → Spawning → Type 0
ProbesEnd plan s =
    (outputs later : List Output) → s.outputs ≡ outputs ++ later → length outputs ≡ length plan.jobs
    → (events : List Event) → IsMerge events (lists_asked 0 plan.asked outputs) → UseNoBroken events (suspects_in events) later

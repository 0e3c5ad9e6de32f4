-- What a run says, at each of its exits.
use Rattle.std.proofs.Common.{◌≡◌, ℕ, ◌≤◌, Bool, true, false, Option, Result, List, sym, subst, ◌∙◌}
use Rattle.edge_io.specs.Disk.{Folder}
use Rattle.outcome_fold.specs.declared.row.Row.{Row}
use Rattle.suite_run.specs.Aloud.{Sinks}
use Rattle.suite_run.specs.declared.run_listener.Shown.{Shown}
use Rattle.testr_conf.specs.Settings.{Settings}
use Rattle.command_steps.specs.Outside.{Work}
use Rattle.command_steps.specs.Speaking.{SaysRun, SaysSome, SaysAloud}
use Rattle.command_steps.specs.declared.answer.Refusal.{Refusal}
use Rattle.command_steps.specs.declared.answer.Verdict.{Verdict}
use Rattle.command_steps.specs.declared.live_lines.Silenced.{Silenced}
use Rattle.command_steps.proofs.SpeakLemmas.{none_said}
use Rattle.testr_commands.specs.RunSuite.{TellsRun, TellsAndFinds}
use Rattle.testr_commands.proofs.ChainLemmas.{LeavesPart, then_leaves}
use Rattle.testr_commands.proofs.FindLemmas.{folder_told, causes_still}
use Rattle.testr_words.specs.declared.format.FormatKind.{FormatKind}

-- it was refused before its workers were read
pub said_early : {early : Bool} (shown : Shown) (partial : Bool) (answer : ℕ) (folder : Option Folder) (before after : Sinks) (silenced : Silenced) → after ≡ before → silenced.errors ≡ false → silenced.out ≡ false → (answer ≤ 1 → ⊥) → SaysAloud shown early partial answer folder before after silenced
said_early shown partial answer folder before after silenced same errors out other = record { some = none_said shown partial folder before after silenced same errors out; none = λ first three. same; whole = λ small. absurd (other small) }

-- it was refused while they were, or behind that
pub said_refused : (shown : Shown) (given partial : Bool) (answer : ℕ) (folder : Option Folder) (before after : Sinks) (silenced : Silenced) → given ≡ partial → (answer ≤ 1 → ⊥) → (answer ≡ 3 → ⊥) → SaysSome shown given folder before after silenced → SaysAloud shown true partial answer folder before after silenced
said_refused shown given partial answer folder before after silenced is other named some = record {
  some = subst (λ (p : Bool). SaysSome shown p folder before after silenced) is some;
  none = λ first three. absurd (named three);
  whole = λ small. absurd (other small);
}

-- it was refused while its sources were recorded, or behind that
pub load_refused : (shown : Shown) (partial : Bool) (answer : ℕ) (folder : Option Folder) (before after : Sinks) (silenced : Silenced) → (answer ≤ 1 → ⊥) → SaysSome shown partial folder before after silenced → SaysAloud shown false partial answer folder before after silenced
load_refused shown partial answer folder before after silenced other some = record { some = some; none = λ never three. cc; whole = λ small. absurd (other small) }

-- they were stored
pub load_said : (shown : Shown) (partial : Bool) (answer : ℕ) (folder : Option Folder) (before after : Sinks) (silenced : Silenced) → SaysSome shown partial folder before after silenced → SaysRun shown partial folder before after silenced → SaysAloud shown false partial answer folder before after silenced
load_said shown partial answer folder before after silenced some whole = record { some = some; none = λ never three. cc; whole = λ small. whole }

-- what is told of a run that is kept, and the search for causes, leave what reads give
run_still : (format : FormatKind) (number : ℕ) (filter_tags : List (List ℕ)) (rows : List Row) → LeavesPart folder_told (TellsRun format number filter_tags rows)
run_still format number filter_tags rows =
    then_leaves folder_told (λ a b r s i. (s.same i).folder.told) (λ report.
    then_leaves folder_told (λ a b r s i. (s.rest i).folder.told) (λ _ a b r s i. (s.same i).folder.told))

pub tells_still : (format : FormatKind) (asked : Bool) (settings : Settings) (number : ℕ) (rows : List Row) → LeavesPart folder_told (TellsAndFinds format asked settings number rows)
tells_still format asked settings number rows =
    then_leaves folder_told (run_still format number settings.filter_tags rows) (λ verdict.
    then_leaves folder_told (causes_still asked settings number rows) (λ _ a b r s i. (s.same i).folder.told))

-- it was kept, and told of
pub said_done : (shown : Shown) (given partial : Bool) (answer : ℕ) (kept folder : Option Folder) (before after : Sinks) (silenced : Silenced) → given ≡ partial → (answer ≡ 3 → ⊥) → SaysSome shown given kept before after silenced → SaysRun shown given kept before after silenced
    → (format : FormatKind) (asked : Bool) (settings : Settings) (number : ℕ) (rows : List Row) (a b : Work) (result : Result Verdict Refusal) → TellsAndFinds format asked settings number rows a b result
    → a.folder.told ≡ kept → b.folder.told ≡ folder → SaysAloud shown true partial answer folder before after silenced
said_done shown given partial answer kept folder before after silenced is named some whole format asked settings number rows a b result tells first last = record {
  some =
      subst (λ (o : Option Folder). SaysSome shown partial o before after silenced) last_is
      (subst (λ (p : Bool). SaysSome shown p kept before after silenced) is some);
  none = λ first three. absurd (named three);
  whole = λ small.
      subst (λ (o : Option Folder). SaysRun shown partial o before after silenced) last_is
      (subst (λ (p : Bool). SaysRun shown p kept before after silenced) is whole);
}
  where
    last_is : kept ≡ folder
    last_is = sym first ∙ sym (tells_still format asked settings number rows a b result tells) ∙ last

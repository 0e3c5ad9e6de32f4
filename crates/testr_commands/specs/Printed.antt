-- What a command has printed at each exit: nothing, or a first part of the text that it prints where it is done.
use Rattle.std.specs.Prelude.{◌≡◌, ◌⊎◌, ℕ, IfSome, All, List, [], length, Option, Some}
use Rattle.edge_io.specs.Bytes.{AppendsPrefix}
use Rattle.edge_io.specs.Steps.{Goes}
use Rattle.outcome_fold.specs.Rows.{rows_of}
use Rattle.packet_codec.specs.Grammar.{AreBytes}
use Rattle.packet_codec.specs.declared.event.Event.{Event}
use Rattle.run_shelf.specs.Repository.{Run, Shows}
use Rattle.sub_text.specs.Texts.{summary_text}
use Rattle.command_steps.specs.Reporting.{report_for}
use Rattle.suite_plan.specs.Choosing.{Ids}
use Rattle.suite_plan.specs.ConfFile.{GivesSettings}
use Rattle.suite_plan.specs.Listing.{ListsSo}
use Rattle.command_steps.specs.declared.test_selection.Further.{Further}
use Rattle.testr_conf.specs.Jobs.{id_lines}
use Rattle.testr_conf.specs.Settings.{Settings}
use Rattle.command_steps.specs.Files.{AreSources, HasRecordedInTurn}
use Rattle.command_steps.specs.Outside.{Work}
use Rattle.command_steps.specs.Says.{SaysOfFolder}
use Rattle.testr_commands.specs.Further.{GivesFurther}
use Rattle.testr_commands.specs.SelfTest.{rows_in_turn}
use Rattle.testr_words.specs.Suites.{LoadOptions, ListOptions}
use Rattle.testr_words.specs.Tasks.{Task, load, ask, list, run, selftest, upgrade}
use Rattle.testr_commands.specs.Upgrade.{PrintsOfUpgrade}
use Rattle.testr_commands.specs.Workers.{PrintsFirst}
use Rattle.command_steps.specs.declared.answer.Verdict.{Verdict}
use Rattle.testr_words.specs.declared.command.Question.{Question}
use Rattle.testr_commands.specs.RunSuite.{listed_ids}

-- the output took a first part of the report of the run that is recorded of these sources
pub record PrintsOfLoad (options : LoadOptions) (names : List (List ℕ)) (before after : Work) : Type 0 where
  pub sources : List (List ℕ)
  pub are_sources : AreSources names before.site.told before.input.told sources
  pub are_bytes : All AreBytes sources
  pub events : List Event
  pub recorded : HasRecordedInTurn 0 sources events
  pub printed : IfSome before.folder.told (λ s. (runs : List Run) → Shows s.disk.published runs → AppendsPrefix before.out.told after.out.told (report_for options.format (rows_of events) (length runs) []))

-- a first part of the answer that the folder gives
pub record PrintsOfAnswer (question : Question) (before after : Work) : Type 0 where
  pub text : List ℕ
  pub verdict : Verdict
  pub says : IfSome after.folder.told (SaysOfFolder question text verdict)
  pub printed : AppendsPrefix before.out.told after.out.told text

-- a first part of the lines of the ids that the project's listing gave and that are wanted
pub record PrintsOfListing (options : ListOptions) (before after : Work) : Type 0 where
  pub settings : Settings
  pub conf : IfSome before.site.told (GivesSettings options.project settings)
  pub further : Further
  pub lists : GivesFurther options.wanted further before.site.told
  pub ids : Ids
  pub listed : Goes before.spawner.told after.spawner.told (ListsSo settings ids)
  pub printed : AppendsPrefix before.out.told after.out.told (id_lines (listed_ids options.wanted settings further ids))

-- so it is of each task; where it is no task, or `init`, nothing is printed
abbrev pub PrintsPart : Option Task → Work → Work → Type 0
PrintsPart (Some (load options names)) before after = PrintsOfLoad options names before after
PrintsPart (Some (ask question)) before after = PrintsOfAnswer question before after
PrintsPart (Some (list options)) before after = PrintsOfListing options before after
PrintsPart (Some (run options)) before after = PrintsFirst options before after
PrintsPart (Some (selftest drawing)) before after = AppendsPrefix before.out.told after.out.told (summary_text (rows_in_turn drawing) 0 [])
PrintsPart (Some upgrade) before after = PrintsOfUpgrade before after
PrintsPart asked before after = ⊥

-- nothing was printed, or such a part
abbrev pub PrintsInPart : Option Task → Work → Work → Type 0
PrintsInPart asked before after = (after.out.told ≡ before.out.told) ⊎ PrintsPart asked before after

-- The runs that a folder showed are shown still, where no run may have been kept by `run`.
use Rattle.std.proofs.Common.{◌≡◌, ℕ, Bool, true, false, Some, Err, List, [], ◌∷◌, refl, sym, ◌∙◌}
use Rattle.outcome_fold.specs.declared.row.Row.{Row}
use Rattle.sub_number.specs.declared.memory.NoMemory.{NoMemory}
use Rattle.suite_causes.specs.declared.cause_search.SearchFault.{SearchFault}
use Rattle.suite_causes.specs.declared.suspects.Suspect.{Suspect}
use Rattle.testr_conf.specs.Settings.{Settings}
use Rattle.command_steps.specs.Outside.{Work}
use Rattle.command_steps.specs.Causes.{candidates_in, FindsAmong, FindsCause, FindsEach, FindsCauses}
use Rattle.testr_commands.specs.RunSuite.{TellsRun, TellsAndFinds, RunsSuite}
use Rattle.command_steps.specs.Selecting.{Planned}
use Rattle.command_steps.specs.Working.{Works}
use Rattle.command_steps.specs.Steps.{Then, stops, goes_on, Gives}
use Rattle.testr_commands.specs.Answer.{may_have_kept}
use Rattle.testr_words.specs.Suites.{RunOptions, is_partial}
use Rattle.testr_words.specs.Tasks.{run}
use Rattle.command_steps.specs.declared.answer.Refusal.{Refusal}
use Rattle.command_steps.specs.declared.question_answers.TellFault.{TellFault}
use Rattle.command_steps.specs.declared.run_report.PrintFault.{PrintFault}
use Rattle.command_steps.specs.declared.answer.Refusal.TheVariants.{Report, Print, Suspects, Ran, Search}
use Rattle.command_steps.proofs.Resting.{rests_of_same}
use Rattle.testr_commands.proofs.ChainLemmas.{gives_not}
use Rattle.testr_commands.proofs.KeepLemmas.{KeepsUnless, then_keeps, refused_as, never, named_last}
use Rattle.testr_commands.proofs.StepLaws.{still_quiet, open_quiet, begin_quiet}
use Rattle.testr_commands.proofs.SuiteQuiet.{site_quiet, spawner_quiet, select_quiet, plan_quiet}
use Rattle.testr_words.specs.declared.format.FormatKind.{FormatKind}

-- what refuses in the search for causes, of all that the refusals of its steps have
module _ (may : Refusal → Bool) (prints : (fault : PrintFault) → may (Print fault) ≡ true) (suspects : (fault : NoMemory) → may (Suspects fault) ≡ true) (rans : (fault : TellFault) → may (Ran fault) ≡ true) (searches : (fault : SearchFault) → may (Search fault) ≡ true) where
  among_late : (settings : Settings) (test : List ℕ) (candidates : List (List ℕ)) (a b : Work) (r : Refusal) → FindsAmong settings test candidates a b (Err r) → may r ≡ true
  among_late settings test candidates a b r (stops fault is step) = refused_as may (Search fault) r is ∙ searches fault
  among_late settings test candidates a b r (goes_on found m step (stops fault is printed)) = refused_as may (Print fault) r is ∙ prints fault
  among_late settings test candidates a b r (goes_on found m step (goes_on _ m2 printed gives)) = absurd (gives_not m2 b r gives)

  cause_late : (settings : Settings) (number : ℕ) (one : Suspect) (a b : Work) (r : Refusal) → FindsCause settings number one a b (Err r) → may r ≡ true
  cause_late settings number one a b r (stops fault is step) = refused_as may (Ran fault) r is ∙ rans fault
  cause_late settings number one a b r (goes_on ids m step next) = among_late settings one.id (candidates_in one.id ids) m b r next

  each_late : (settings : Settings) (number : ℕ) (left : List Suspect) (a b : Work) (r : Refusal) → FindsEach settings number left a b (Err r) → may r ≡ true
  each_late settings number [] a b r gives = absurd (gives_not a b r gives)
  each_late settings number (one ∷ more) a b r (stops fault is step) = refused_as may fault r is ∙ cause_late settings number one a b fault step
  each_late settings number (one ∷ more) a b r (goes_on _ m step next) = each_late settings number more m b r next

  pub causes_late : (asked : Bool) (settings : Settings) (number : ℕ) (rows : List Row) (a b : Work) (r : Refusal) → FindsCauses asked settings number rows a b (Err r) → may r ≡ true
  causes_late false settings number rows a b r gives = absurd (gives_not a b r gives)
  causes_late true settings number rows a b r (stops fault is step) = refused_as may (Suspects fault) r is ∙ suspects fault
  causes_late true settings number rows a b r (goes_on found m step next) = each_late settings number found m b r next

module _ (options : RunOptions) where
  abbrev may_have : Refusal → Bool
  may_have r = may_have_kept (Some (run options)) (Err r)

  works_keep : (number : ℕ) (plan : Planned) → KeepsUnless may_have (Works (is_partial options) number plan)
  works_keep number plan =
      then_keeps may_have (λ a b r s. begin_quiet a b r s.at) (λ _.
      then_keeps may_have (λ a b r s. spawner_quiet a b s.rest) (λ rests.
      then_keeps may_have (λ a b r s. rests_of_same a.folder.told b.folder.told s.at.files) (λ rows.
      named_last may_have (is_partial options) number rows (Gives rows) (λ fault. refl) (λ fault. refl) (λ a b r gives. absurd (gives_not a b r gives)))))

  -- what refuses behind the run's name
  told_late : (format : FormatKind) (number : ℕ) (tags : List (List ℕ)) (rows : List Row) (a b : Work) (r : Refusal) → TellsRun format number tags rows a b (Err r) → may_have r ≡ true
  told_late format number tags rows a b r (stops fault is step) = refused_as may_have (Report fault) r is
  told_late format number tags rows a b r (goes_on report m step (stops fault is printed)) = refused_as may_have (Print fault) r is
  told_late format number tags rows a b r (goes_on report m step (goes_on _ m2 printed gives)) = absurd (gives_not m2 b r gives)

  finds_late : (settings : Settings) (number : ℕ) (rows : List Row) (a b : Work) (r : Refusal) → TellsAndFinds options.format options.find_causes settings number rows a b (Err r) → may_have r ≡ true
  finds_late settings number rows a b r (stops fault is step) = refused_as may_have fault r is ∙ told_late options.format number settings.filter_tags rows a b fault step
  finds_late settings number rows a b r (goes_on verdict m step (stops fault is finds)) = refused_as may_have fault r is ∙ causes_late may_have (λ why. refl) (λ why. refl) (λ why. refl) (λ why. refl) options.find_causes settings number rows m b fault finds
  finds_late settings number rows a b r (goes_on verdict m step (goes_on _ m2 finds gives)) = absurd (gives_not m2 b r gives)

  works_last : (number : ℕ) (plan : Planned) (settings : Settings) → KeepsUnless may_have (Then (λ refusal. refusal) (Works (is_partial options) number plan) (λ rows. TellsAndFinds options.format options.find_causes settings number rows))
  works_last number plan settings a b r (stops fault is step) not = works_keep number plan a b fault step (sym (refused_as may_have fault r is) ∙ not)
  works_last number plan settings a b r (goes_on rows m step next) not = absurd (never may_have r (finds_late settings number rows m b r next) not)

  pub run_keeps : KeepsUnless may_have (RunsSuite options)
  run_keeps =
      then_keeps may_have (λ a b r s. site_quiet a b s.rest) (λ settings.
      then_keeps may_have (λ a b r s. open_quiet a b r s.at) (λ found.
      then_keeps may_have (λ a b r s. still_quiet a b s.same) (λ _.
      then_keeps may_have (λ a b r s. still_quiet a b s.same) (λ _.
      then_keeps may_have (select_quiet settings options) (λ selected.
      then_keeps may_have (plan_quiet settings options.find_causes selected) (λ plan.
      works_last _ plan settings))))))

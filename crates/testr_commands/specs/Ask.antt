-- The commands that tell of a repository, as the chain of their steps.
use Rattle.std.specs.Prelude.{◌-◌, true, length}
use Rattle.run_shelf.specs.declared.found.Found.{Found}
use Rattle.run_shelf.specs.Holds.{kinds_of}
use Rattle.command_steps.specs.Steps.{Step, Then, Still, Gives, At}
use Rattle.command_steps.specs.Outside.{Shown, shown_folder, shown_out}
use Rattle.command_steps.specs.Store.{Opens, HasRunFor}
use Rattle.command_steps.specs.Told.{FindsAnswer}
use Rattle.command_steps.specs.Copying.{CopiesRun, copy_refusal}
use Rattle.command_steps.specs.Reporting.{Prints}
use Rattle.testr_words.specs.declared.command.Question.{Question}
use Rattle.testr_words.specs.declared.command.Question.TheVariants.{Last}
use Rattle.command_steps.specs.declared.answer.Verdict.{Verdict}
use Rattle.command_steps.specs.declared.answer.Verdict.TheVariants.{Passed}
use Rattle.command_steps.specs.declared.answer.Refusal.{Refusal}
use Rattle.command_steps.specs.declared.answer.Refusal.TheVariants.{Open, Runs, Tell, Print}

-- the last run is copied as it is
abbrev pub CopiesLast : Found → Step Shown Verdict Refusal
CopiesLast found =
    Then copy_refusal (CopiesRun (length (kinds_of found) - 1)) (λ _.
    Gives Passed)

-- the text of the answer is made, and then printed
abbrev pub PrintsAnswer : Question → Step Shown Verdict Refusal
PrintsAnswer question =
    Then Tell (At shown_folder (FindsAnswer question)) (λ told.
    Then Print (At shown_out (Prints told.text.items)) (λ _.
    Gives told.verdict))

-- the step that answers a question: a copy of the run's bytes, or printed text
abbrev pub AnswersOf : Found → Question → Step Shown Verdict Refusal
AnswersOf found (Last true) = CopiesLast found
AnswersOf found question = PrintsAnswer question

-- a question, step by step: the folder is opened, has a run where the last one is asked for, and its answer is printed
abbrev pub Asks : Question → Step Shown Verdict Refusal
Asks question =
    Then Open (At shown_folder Opens) (λ found.
    Then Runs (Still (HasRunFor question (length (kinds_of found)))) (λ _.
    AnswersOf found question))

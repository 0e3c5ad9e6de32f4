-- Which steps answer a question.
use Rattle.std.proofs.Common.{◌≡◌, ◌⊎◌, inl, inr, Bool, true, false, IsTrue, Result, refl}
use Rattle.std.specs.Prelude.{◌↔◌}
use Rattle.run_shelf.specs.declared.found.Found.{Found}
use Rattle.testr_commands.specs.Ask.{CopiesLast, PrintsAnswer, AnswersOf}
use Rattle.command_steps.specs.Outside.{Shown}
use Rattle.testr_words.specs.Questions.{OfBytes}
use Rattle.testr_words.specs.declared.command.Question.{Question}
use Rattle.testr_words.specs.declared.command.Question.TheVariants.{Last}
use Rattle.command_steps.specs.declared.answer.Verdict.{Verdict}
use Rattle.command_steps.specs.declared.answer.Refusal.{Refusal}

module _ (question : Question) (b : Bool) (is : IsTrue b ↔ OfBytes question) where
  pub of_bytes : b ≡ true → OfBytes question
  of_bytes holds = is.0 holds

  pub of_text : b ≡ false → OfBytes question → ⊥
  of_text fails of =
      let holds : b ≡ true = is.1 of in
      cc

module _ (found : Found) (a b : Shown) (result : Result Verdict Refusal) where
  pub by_copy : (question : Question) → OfBytes question → CopiesLast found a b result → AnswersOf found question a b result
  by_copy (Last true) is copies = copies
  by_copy question is copies = absurd is

  -- so it was one of the two
  pub either : (question : Question) → AnswersOf found question a b result → ((question ≡ Last true) × CopiesLast found a b result) ⊎ PrintsAnswer question a b result
  either (Last true) answers = inl (refl, answers)
  either question answers = inr answers

  pub by_text : (question : Question) → (OfBytes question → ⊥) → PrintsAnswer question a b result → AnswersOf found question a b result
  by_text (Last true) not prints = absurd (not tt)
  by_text question not prints = prints

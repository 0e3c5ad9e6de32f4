-- How the selection of a run's tests goes on, step by step.
use Rattle.std.proofs.Common.{◌≡◌, ℕ, zero, suc, ◌<◌, ◌≤◌, true, false, Bool, Option, None, Some, Result, Ok, Err, IfOk, refl, ap, subst, ◌∙◌, arith}
use Rattle.std.specs.Prelude.{IsErrAnd, min}
use Rattle.std.specs.Option.{unwrap_or}
use Rattle.std.proofs.lemmas.Result.{err_from_is_err_and}
use Rattle.sub_number.specs.declared.memory.NoMemory.{NoMemory}
use Rattle.testr_conf.specs.Settings.{Settings}
use Rattle.suite_plan.specs.Choosing.{Ids, base_ids, chosen_ids, with_further}
use Rattle.suite_plan.specs.Processors.{CountsProcessors}
use Rattle.suite_plan.specs.declared.picks.FurtherPicks.{FurtherPicks}
use Rattle.suite_plan.specs.declared.picks.Picks.{Picks}
use Rattle.suite_plan.specs.declared.worker_shares.TheConstants.{MOST_WORKERS}
use Rattle.command_steps.specs.Outside.{Work, work_site}
use Rattle.command_steps.specs.Perhaps.{when, Perhaps, refused}
use Rattle.command_steps.specs.Selecting.{Chooses, CountsWorkers, UsesAsked, UsesCalled}
use Rattle.command_steps.specs.Steps.{Step, Then, Gives, At}
use Rattle.command_steps.specs.declared.answer.Refusal.{Refusal}
use Rattle.command_steps.specs.declared.answer.Refusal.TheVariants.{Table}

-- ---- a step that is done where it is asked for

module _ {W X A E : Type 0} {asked : Option X} {step : X → Step W A E} {before after : W} {result : Result (Option A) E} where
  -- an exit by `?`
  pub perhaps_stops : (x : X) (fault : E) → asked ≡ Some x → IsErrAnd result (λ refusal. refusal ≡ fault) → step x before after (Err fault) → Perhaps asked step before after result
  perhaps_stops x fault is refused_so done =
      let p = err_from_is_err_and result refused_so in
      refused x fault is (p.1 ∙ ap Err p.2) done

pub wanted_is : (wanted : Bool) → wanted ≡ true → when wanted ≡ Some tt
wanted_is wanted is = ap when is

pub perhaps_as : {W A E : Type 0} {given wanted : Bool} {step : Unit {0} → Step W A E} {before after : W} {result : Result (Option A) E} → given ≡ wanted → Perhaps (when given) step before after result → Perhaps (when wanted) step before after result
perhaps_as {step = step} {before = before} {after = after} {result = result} is perhaps = subst (λ (w : Bool). Perhaps (when w) step before after result) is perhaps

-- ---- the number of workers

pub one_worker : (settings : Settings) (parallel : Bool) (asked : ℕ) (w : Work) → parallel ≡ false → CountsWorkers settings parallel asked w w (Ok 1)
one_worker settings false asked w is = record { answer = refl; same = refl }
one_worker settings true asked w is = cc

pub asked_workers : (settings : Settings) (parallel : Bool) (asked number : ℕ) (w : Work) → parallel ≡ true → 0 < asked → number ≡ min asked MOST_WORKERS → CountsWorkers settings parallel asked w w (Ok number)
asked_workers settings false asked number w is some number_is = cc
asked_workers settings true zero number w is some number_is = absurd (omega (arith, some))
asked_workers settings true (suc less) number w is some number_is = record { answer = ap Ok number_is; same = refl }

pub unasked_workers : (settings : Settings) (parallel : Bool) (asked : ℕ) (a b : Work) (result : Result ℕ Refusal) → parallel ≡ true → asked ≤ 0 → UsesAsked settings zero a b result → CountsWorkers settings parallel asked a b result
unasked_workers settings false asked a b result is none uses = cc
unasked_workers settings true zero a b result is none uses = uses
unasked_workers settings true (suc less) a b result is none uses = absurd (omega (arith, none))

pub uses_called : (called : Option ℕ) (value number : ℕ) (w : Work) → value ≡ unwrap_or called 0 → 0 < value → number ≡ min value MOST_WORKERS → UsesCalled called w w (Ok number)
uses_called None value number w is some number_is = absurd (omega (arith, is, some))
uses_called (Some zero) value number w is some number_is = absurd (omega (arith, is, some))
uses_called (Some (suc less)) value number w is some number_is = record { answer = ap Ok (number_is ∙ ap (λ n. min n MOST_WORKERS) is); same = refl }

pub uses_table : (called : Option ℕ) (value : ℕ) (a b : Work) (result : Result ℕ Refusal) → value ≡ unwrap_or called 0 → value ≤ 0 → Then Table (At work_site CountsProcessors) (λ number. Gives number) a b result → UsesCalled called a b result
uses_table None value a b result is none table = table
uses_table (Some zero) value a b result is none table = table
uses_table (Some (suc less)) value a b result is none table = absurd (omega (arith, is, none))

-- ---- the ids

pub chooses_as : (given picks : Picks) (further : FurtherPicks) (failing listed listing : Option Ids) (result : Result (Option Ids) NoMemory) → given ≡ picks → IfOk result (λ ids. ids ≡ chosen_ids (with_further given further) (base_ids failing listed listing)) → Chooses (with_further picks further) failing listed listing result
chooses_as given picks further failing listed listing result is holds = record { chosen = subst (λ (p : Picks). IfOk result (λ ids. ids ≡ chosen_ids (with_further p further) (base_ids failing listed listing))) is holds }

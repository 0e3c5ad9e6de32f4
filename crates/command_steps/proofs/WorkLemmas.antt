-- What is kept of the workers, at each exit of their step.
use Rattle.std.proofs.Common.{◌≡◌, ℕ, Option, None, Some, IfSome, Result, Err, List, [], sym, ap, subst, ◌∙◌}
use Rattle.std.specs.Prelude.{IsErrAnd}
use Rattle.std.proofs.lemmas.Result.{err_from_is_err_and}
use Rattle.outcome_fold.specs.declared.row.Row.{Row}
use Rattle.suite_run.specs.Summed.{GivesSums}
use Rattle.command_steps.specs.Working.{kept_in}
use Rattle.command_steps.specs.declared.worker_run.Kept.{Kept}
use Rattle.command_steps.specs.declared.answer.Refusal.{Refusal}

-- what is so of a value, where there is one
pub where_some : {A : Type 0} (o : Option A) (P Q : A → Type 0) → IfSome o P → ((x : A) → P x → Q x) → IfSome o Q
where_some None P Q is each = tt
where_some (Some x) P Q is each = each x is

-- an exit by `?` of the workers, of which nothing is kept
pub keeps_fault : {filter_tags : List (List ℕ)} {Holds : Result (List Row) Refusal → Type 0} (result : Result Kept Refusal) (fault : Refusal) → IsErrAnd result (λ given. given ≡ fault) → Holds (Err fault) → GivesSums filter_tags Holds (kept_in result)
keeps_fault {filter_tags = filter_tags} {Holds = Holds} result fault is holds =
    let p = err_from_is_err_and result is in
    subst (λ (r : Result Kept Refusal). GivesSums filter_tags Holds (kept_in r)) (sym (p.1 ∙ ap Err p.2)) (record { rows = []; sums = tt; holds = holds })

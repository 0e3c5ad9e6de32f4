-- How a chain goes on, and how it stops.
use Rattle.std.proofs.Common.{◌≡◌, ℕ, ◌-◌, Bool, List, [], ◌∷◌, ◌++◌, length, length-append, Result, Ok, Err, refl, sym, ap, subst, ◌∙◌, arith}
use Rattle.std.specs.Prelude.{IsErrAnd}
use Rattle.std.proofs.lemmas.Result.{err_from_is_err_and}
use Rattle.outcome_fold.specs.declared.row.Row.{Row}
use Rattle.edge_io.specs.Disk.{Folder}
use Rattle.edge_io.specs.Seen.{Seen}
use Rattle.sub_number.specs.declared.memory.NoMemory.{NoMemory}
use Rattle.testr_words.specs.declared.format.FormatKind.{FormatKind}
use Rattle.command_steps.specs.Steps.{Step, Then, stops, goes_on, Still, Gives, Part, At}
use Rattle.command_steps.specs.Refreshing.{Refreshes}
use Rattle.command_steps.specs.Reporting.{Report, Reports, Prints}
use Rattle.command_steps.specs.declared.run_report.PrintFault.{PrintFault}
use Rattle.command_steps.specs.declared.question_answers.TellFault.{TellFault}

module _ {W A B E R : Type 0} {name : E → R} {second : A → Step W B R} {before after : W} {result : Result B R} where
  -- an exit by `?`
  pub stopped : {first : Step W A E} (fault : E) → IsErrAnd result (λ refusal. refusal ≡ name fault) → first before after (Err fault) → Then name first second before after result
  stopped fault refused step =
      let p = err_from_is_err_and result refused in
      stops fault (p.1 ∙ ap Err p.2) step

  pub still_stops : {Says : Result A E → Type 0} (fault : E) → IsErrAnd result (λ refusal. refusal ≡ name fault) → Says (Err fault) → after ≡ before → Then name (Still Says) second before after result
  still_stops fault refused says same = stopped fault refused (record { says = says; same = same })

  pub part_stops : {P : Type 0} {part : Part W P} {step : Step P A E} (fault : E) → IsErrAnd result (λ refusal. refusal ≡ name fault) → step (part.of before) (part.of after) (Err fault) → after ≡ part.put before (part.of after) → Then name (At part step) second before after result
  part_stops fault refused step same = stopped fault refused (record { at = step; rest = same })

  pub still_done : {Says : Result A E → Type 0} (value : A) → Says (Ok value) → second value before after result → Then name (Still Says) second before after result
  still_done value says next = goes_on value before (record { says = says; same = refl }) next

  pub part_done : {P : Type 0} {part : Part W P} {step : Step P A E} (value : A) (left : P) → step (part.of before) left (Ok value) → second value (part.put before left) after result → Then name (At part step) second before after result
  part_done {part = part} {step = step} value left done next =
      let same = sym (part.of_put before left) in
      goes_on value (part.put before left) (record { at = subst (λ p. step (part.of before) p (Ok value)) same done; rest = ap (part.put before) same }) next

-- an exit by `?` whose answer is told otherwise
module _ {W A B E R X : Type 0} {name : E → R} {second : A → Step W B R} {before after : W} (turn : Result X R → Result B R) (keeps : (e : R) → turn (Err e) ≡ Err e) (mid : Result X R) where
  pub part_fails : {P : Type 0} {part : Part W P} {step : Step P A E} (fault : E) → IsErrAnd mid (λ refusal. refusal ≡ name fault) → step (part.of before) (part.of after) (Err fault) → after ≡ part.put before (part.of after) → Then name (At part step) second before after (turn mid)
  part_fails fault refused step same =
      let p = err_from_is_err_and mid refused in
      stops fault (ap turn (p.1 ∙ ap Err p.2) ∙ keeps (name fault)) (record { at = step; rest = same })

  pub still_fails : {Says : Result A E → Type 0} (fault : E) → IsErrAnd mid (λ refusal. refusal ≡ name fault) → Says (Err fault) → after ≡ before → Then name (Still Says) second before after (turn mid)
  still_fails fault refused says same =
      let p = err_from_is_err_and mid refused in
      stops fault (ap turn (p.1 ∙ ap Err p.2) ∙ keeps (name fault)) (record { says = says; same = same })

pub gives : {W A R : Type 0} {value : A} {after : W} → Gives {R = R} value after after (Ok value)
gives = record { answer = refl; same = refl }

-- ---- what a step is given may be another term of the same value

pub prints_as : {given text : List ℕ} {before after : Seen (List ℕ)} {result : Result (Unit {0}) PrintFault} → given ≡ text → Prints given before after result → Prints text before after result
prints_as {before = before} {after = after} {result = result} same prints = subst (λ (l : List ℕ). Prints l before after result) same prints

pub reports_as : {format : FormatKind} {given number : ℕ} {tags : List (List ℕ)} {rows : List Row} {result : Result Report NoMemory} → given ≡ number → Reports format given tags rows result → Reports format number tags rows result
reports_as {format = format} {tags = tags} {rows = rows} {result = result} same reports = subst (λ (n : ℕ). Reports format n tags rows result) same reports

-- the run behind others has the number of these
pub refreshes_as : (given kinds : List Bool) (partial : Bool) {rows : List Row} {before after : Seen Folder} {result : Result (Unit {0}) TellFault} → given ≡ kinds ++ partial ∷ [] → Refreshes (length given - 1) rows before after result → Refreshes (length kinds) rows before after result
refreshes_as given kinds partial {rows = rows} {before = before} {after = after} {result = result} is refreshes =
    let number : length given - 1 ≡ length kinds = omega (arith, ap length is, length-append kinds (partial ∷ [])) in
    subst (λ (n : ℕ). Refreshes n rows before after result) number refreshes

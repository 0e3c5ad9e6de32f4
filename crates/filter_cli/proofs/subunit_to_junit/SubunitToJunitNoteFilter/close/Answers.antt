use Rattle.std.proofs.Common.{◌≡◌, ℕ, Bool, ◌||◌, List, ◌++◌, cond, rules, sym, ap, subst, ◌∙◌}
use Rattle.std.specs.List.{list_any}
use Rattle.std.proofs.lemmas.List.Folds.{list_any-append}
use Rattle.outcome_fold.specs.declared.row.Row.{Row}
use Rattle.outcome_fold.specs.Rows.{completed_rows, open_rows}
use Rattle.outcome_fold.specs.Answers.{row_fails}
use Rattle.filter_cli.specs.JunitCases.{HasCases}
use Rattle.filter_cli.specs.Events.{events_among}
use Rattle.filter_cli.proofs.TallyLemmas.{fails_in_turn}
use Rattle.filter_cli.proofs.subunit_to_junit.SubunitToJunitNoteFilter.close.Goals as goal

pub returns-clause-text : goal.returns-clause-text
returns-clause-text c notes has =
    let seen = events_among notes in
    c.in_ok-write.ensures (completed_rows seen ++ open_rows seen)
    (subst (λ (rows : List Row). HasCases c.put_rows.new.cases (completed_rows seen ++ rows)) (c.in_ok-rows.ensures seen has.0) (c.in_ok-put_rows.ensures (completed_rows seen) has.1.0))

pub returns-clause-status : goal.returns-clause-status
returns-clause-status c notes has =
    let seen = events_among notes in
    let rows = c.deref.ensures.value ∙ c.in_ok-rows.ensures seen has.0 in
    let some : c.failed_with-failed.result ≡ list_any row_fails (completed_rows seen ++ open_rows seen) =
    c.failed_with-failed.ensures ∙ ap (λ (b : Bool). b || list_any row_fails c.deref.result.now) has.1.1
    ∙ ap (λ (l : List Row). list_any row_fails (completed_rows seen) || list_any row_fails l) rows
    ∙ sym (list_any-append row_fails (completed_rows seen) (open_rows seen)) in
    let given : c.from.result ≡ cond {A = ℕ} c.failed_with-failed.result 1 0 = search rules in
    given ∙ ap (λ (b : Bool). cond {A = ℕ} b 1 0) (some ∙ fails_in_turn seen)

use Rattle.std.proofs.Common.{◌∙◌, ◌++◌, ◌∷◌, [], sym}
use Rattle.std.specs.FinMap as fin
use Rattle.std.specs.List.{filter}
use Rattle.std.proofs.lemmas.Result.{on_ok_weaker}
use Rattle.outcome_fold.specs.Order.{route_cmp}
use Rattle.outcome_fold.specs.Rows.{is_under}
use Rattle.outcome_fold.proofs.GroupLemmas.{found_some}
use Rattle.filter_cli.specs.JunitCases.{cases_of}
use Rattle.filter_cli.proofs.JunitCaseLemmas.{found_cases, put_there, put_first}
use Rattle.filter_cli.proofs.junit_cases.JunitCases.put.Goals as goal

pub returns-in-Some : goal.returns-in-Some
returns-in-Some c = λ rows has.
    let own = c.self.view_is ∙ has in
    let found = c.in-Some.ensures.value in
    on_ok_weaker c.put.result (λ grown. put_there rows c.args.row _ _ c.put.new.self ((c.get_mut.follows.holds c.put.new.self).3 (found_some _ _ found)).0 own grown)
    (c.put.ensures (filter (is_under c.args.row.route) rows) (found_cases rows c.args.row.route _ c.in-Some.cases.now own found))

pub returns-in-None : goal.returns-in-None
returns-in-None c = λ rows has.
    let same = c.get_mut.follows.holds-at-none in
    on_ok_weaker c.start.result (λ started. started
    ∙ (λ i. fin.insert (fin.from_entries {R = route_cmp} (same i).entries) c.args.row.route (cases_of (c.args.row ∷ [])))
    ∙ put_first rows c.args.row _ (c.self.view_is ∙ has) c.in-None.ensures.value) c.start.ensures

use Rattle.std.proofs.Common.{[], ◌∷◌, ◌++◌, append-nil, append_assoc, sym, subst}
use Rattle.filter_cli.specs.JunitCases.{HasCases}
use Rattle.filter_cli.proofs.subunit_to_junit.put_rows.Goals as goal

pub loop-row-init : goal.loop-row-init
loop-row-init c = λ before has. subst (HasCases c.args.cases.now) (sym (append-nil before)) has

pub loop-row-preserved : goal.loop-row-preserved
loop-row-preserved c = λ before has. subst (HasCases c.put.new.self) (append_assoc before c.loop-row.yielded (c.in-Some.row ∷ [])) (c.in_ok-put.ensures (before ++ c.loop-row.yielded) (c.loop-row.invariant before has))

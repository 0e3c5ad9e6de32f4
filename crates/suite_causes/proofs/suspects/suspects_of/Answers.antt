use Rattle.std.proofs.Common.{◌∷◌, ◌++◌, [], take, sym, ap, ◌∙◌, arith}
use Rattle.std.proofs.lemmas.List.{take_more}
use Rattle.suite_causes.specs.Suspects.{suspects_of}
use Rattle.suite_causes.proofs.suspects.suspects_of.Goals as goal

pub loop-row-preserved : goal.loop-row-preserved
loop-row-preserved c =
    let rows = c.args.failing.now in
    let index = c.loop-row.row-index in
    c.in_ok-take.ensures (take index rows) c.loop-row.invariant
    ∙ ap suspects_of (ap (λ n. take index rows ++ n ∷ []) c.row-item.is ∙ sym (take_more rows index c.row-item.result (grind arith)))

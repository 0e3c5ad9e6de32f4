use Rattle.std.proofs.Common.{Some, ◌∙◌}
use Rattle.filter_cli.proofs.WordLemmas.{refused_so, retagged_so}
use Rattle.filter_cli.proofs.tag_changes.read_retagging.Goals as goal

pub returns-then-has_refused : goal.returns-then-has_refused
returns-then-has_refused c = refused_so c.args.words.now _ c.has_refused.ensures c.if-has_refused.true

pub returns : goal.returns
returns c =
    (λ i. Some (record { add = c.in_ok-add.ensures i; remove = c.in_ok-remove.ensures i }))
    ∙ retagged_so c.args.words.now _ c.has_refused.ensures c.if-has_refused.false

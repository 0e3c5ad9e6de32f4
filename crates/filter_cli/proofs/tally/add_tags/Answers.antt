use Rattle.std.proofs.Common.{◌≡◌, true, false, ap, ◌∙◌, not, arith}
use Rattle.outcome_fold.specs.Answers.{is_existing}
use Rattle.filter_cli.proofs.TallyLemmas.{tags_more, tags_same}
use Rattle.filter_cli.proofs.tally.add_tags.Goals as goal

pub returns-then-not-is_of : goal.returns-then-not-is_of
returns-then-not-is_of c = λ rows row how same before.
    let other : not (is_existing c.args.ended) ≡ false = grind (arith, c.if-not-is_of.true, c.is_of.ensures) in
    tags_same rows row c.args.tags.now before (ap (λ e. not (is_existing e)) how ∙ other)

pub returns : goal.returns
returns c = λ rows row how same before.
    let runs : not (is_existing c.args.ended) ≡ true = grind (arith, c.if-not-is_of.false, c.is_of.ensures) in
    tags_more rows row c.args.texts.now c.args.tags.now _ same before (ap (λ e. not (is_existing e)) how ∙ runs) c.in_ok-insert_all.ensures

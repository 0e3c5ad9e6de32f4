use Rattle.std.proofs.Common.{◌≡◌, nat_eq, rules, ◌∙◌}
use Rattle.std.specs.Cmp.Lexicographic.{pointwise, texts_ties}
use Rattle.event_sift.proofs.lent_tags.is_text.Goals as goal

pub returns : goal.returns
returns c =
    let same : c.eq.result ≡ pointwise nat_eq c.args.tag.now c.args.text.now = search rules in
    same ∙ texts_ties c.args.tag.now c.args.text.now

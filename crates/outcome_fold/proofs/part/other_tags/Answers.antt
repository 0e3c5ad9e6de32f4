use Rattle.std.proofs.Common.{sym, ap}
use Rattle.std.specs.Option.{unwrap_or}
use Rattle.std.proofs.lemmas.Result.{MatchResult-weaker}
use Rattle.outcome_fold.proofs.part.other_tags.Goals as goal

pub returns-then-has_tags : goal.returns-then-has_tags
returns-then-has_tags c = λ e s. ap (λ tags. unwrap_or tags c.args.kept.now) (sym ((c.has_tags.ensures e s).0 c.if-has_tags.true))

pub returns : goal.returns
returns c = λ e s. MatchResult-weaker c.tags.result (c.tags.ensures e s) (λ _ is. ap (λ tags. unwrap_or tags c.args.kept.now) is) (λ _ _. tt)

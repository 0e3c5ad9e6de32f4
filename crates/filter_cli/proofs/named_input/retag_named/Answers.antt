use Rattle.filter_cli.specs.declared.request.Asked.TheVariants as wanted
use Rattle.filter_cli.proofs.ChainLemmas.{checked_named, none_given, plan_named, tags_is}
use Rattle.filter_cli.proofs.named_input.retag_named.Goals as goal

pub returns : goal.returns
returns g c input =
    checked_named (wanted.Tags c.args.retagging) _ _ _ _ none_given (plan_named _ _ _ _ _ _ (tags_is c.new-tagger.result _ _ c.new-tagger.ensures.add c.new-tagger.ensures.remove) (c.tag_named.ensures input))

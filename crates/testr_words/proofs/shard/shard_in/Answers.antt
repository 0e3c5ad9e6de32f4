use Rattle.std.proofs.Common.{Some, None, refl, sym, ap, ◌∙◌}
use Rattle.std.specs.Option.{option_map}
use Rattle.testr_words.proofs.ShardLemmas.{no_shard, last_shard}
use Rattle.testr_words.proofs.shard.shard_in.Goals as goal

pub returns-then-not-are_shards : goal.returns-then-not-are_shards
returns-then-not-are_shards c = no_shard c.args.items.now _ c.are_shards.ensures c.if-not-are_shards.true

pub returns-in-Some : goal.returns-in-Some
returns-in-Some c = last_shard c.args.items.now _ c.are_shards.ensures c.if-not-are_shards.false (Some c.in-Some.value.now) _ (sym (ap (option_map (λ value. value.now)) c.in-Some.is) ∙ c.last_value.ensures) c.told_shard.ensures

pub returns-in-None : goal.returns-in-None
returns-in-None c = last_shard c.args.items.now _ c.are_shards.ensures c.if-not-are_shards.false None _ (sym (ap (option_map (λ value. value.now)) c.in-None.is) ∙ c.last_value.ensures) refl

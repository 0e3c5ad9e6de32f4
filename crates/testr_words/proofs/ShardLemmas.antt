-- Which shard words ask for.
use Rattle.std.proofs.Common.{◌≡◌, ℕ, Bool, true, false, List, map, Option, None, Some, sym, ap, ◌∙◌}
use Rattle.std.specs.List.{list_all}
use Rattle.std.specs.Option.{option_to_list}
use Rattle.std.proofs.lemmas.Bool.{cond-true, cond-false}
use Rattle.command_words.specs.Code.{item_meant}
use Rattle.command_words.specs.declared.item.Item as code
use Rattle.command_words.specs.Items.{value_of, values_in}
use Rattle.testr_words.specs.Shards.{NumberedShard}
use Rattle.testr_words.specs.Words.{and_then, last_of, shard_word, is_shard, shard_of, shard_in}
use Rattle.testr_words.proofs.ValueLemmas.{all_of_each}

module _ (items : List code.Item) (all : Bool) (is : all ≡ list_all (λ item. list_all is_shard (option_to_list (value_of shard_word (item_meant item)))) items) where
  whole : list_all is_shard (values_in shard_word (map item_meant items)) ≡ all
  whole = all_of_each is_shard (λ item. option_to_list (value_of shard_word item)) item_meant items ∙ sym is

  -- one of the values is no shard
  pub no_shard : all ≡ false → None ≡ shard_in (map item_meant items)
  no_shard not_all = sym (cond-false (list_all is_shard (values_in shard_word (map item_meant items))) (Some (and_then (last_of (values_in shard_word (map item_meant items))) shard_of)) None (whole ∙ not_all))

  -- each is one, and the last of them stands
  pub last_shard : all ≡ true → (last : Option (List ℕ)) (answer : Option NumberedShard) → last ≡ last_of (values_in shard_word (map item_meant items)) → answer ≡ and_then last shard_of → Some answer ≡ shard_in (map item_meant items)
  last_shard each last answer stands is_answer =
      ap Some (is_answer ∙ ap (λ l. and_then l shard_of) stands)
      ∙ sym (cond-true (list_all is_shard (values_in shard_word (map item_meant items))) (Some (and_then (last_of (values_in shard_word (map item_meant items))) shard_of)) None (whole ∙ each))

use Rattle.std.proofs.Common.{◌≡◌, ◌++◌, drop, map}
use Rattle.std.specs.Option.{option_map, option_to_list}
use Rattle.command_words.specs.Code.{item_meant}
use Rattle.filter_cli.specs.Words as asking
use Rattle.filter_cli.proofs.request.only_name.Given as goal

-- the name that was found, and those to come, are all
abbrev pub invariant-loop-item : goal.invariant-loop-item
invariant-loop-item l = option_to_list (option_map (λ name. name.now) l.found) ++ asking.plain_words_in (map item_meant (drop l.item-index l.items)) ≡ asking.plain_words_in (map item_meant l.items)

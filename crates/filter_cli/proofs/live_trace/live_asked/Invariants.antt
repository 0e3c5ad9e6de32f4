use Rattle.std.proofs.Common.{◌≡◌, map, drop}
use Rattle.std.specs.List.{fold}
use Rattle.command_words.specs.Code.{item_meant}
use Rattle.filter_cli.specs.Tracing.{live_behind, live_asked}
use Rattle.filter_cli.proofs.live_trace.live_asked.Given as goal

abbrev pub invariant-loop-item : goal.invariant-loop-item
invariant-loop-item l = fold live_behind l.kind (map item_meant (drop l.item-index l.items)) ≡ live_asked (map item_meant l.items)

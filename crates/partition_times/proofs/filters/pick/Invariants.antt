use Rattle.std.proofs.Common.{◌≡◌, map, take}
use Rattle.std.specs.List.{filter}
use Rattle.regex.specs.Strings.{matcher_pattern}
use Rattle.partition_times.specs.Compiled.{AreSearchers, is_picked}
use Rattle.partition_times.proofs.filters.pick.Given as goal

abbrev pub invariant-loop-id : goal.invariant-loop-id
invariant-loop-id l = record {
  searchers : AreSearchers l.filters (map matcher_pattern l.matchers.items);
  picked : l.picked ≡ filter (is_picked l.filters) (take l.id-index l.ids);
}

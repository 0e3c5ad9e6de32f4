use Rattle.std.proofs.Common.{◌≡◌, ◌++◌, map}
use Rattle.std.specs.FinMap as fin
use Rattle.partition_times.specs.Ranked.{AreRanked, AreGroups}
use Rattle.partition_times.proofs.rank.rank_all.Given as goal

abbrev pub invariant-loop-name : goal.invariant-loop-name
invariant-loop-name l = record {
  parts : l.yielded ++ l.name-iterator ≡ l.fn.lists.entries;
  ranked : (group : _) → AreGroups group l.fn.lists → AreRanked (fin.get l.times) group (map (λ e. e.0.now) l.yielded) l.ranked;
}

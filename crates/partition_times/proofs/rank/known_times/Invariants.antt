use Rattle.std.proofs.Common.{◌≡◌, ◌*◌, ◌^◌, ◌≤◌, take}
use Rattle.std.specs.FinMap as fin
use Rattle.partition_times.specs.Shares.{known_time, is_some_known, are_all_known}
use Rattle.partition_times.proofs.rank.known_times.Given as goal

abbrev pub invariant-loop-id : goal.invariant-loop-id
invariant-loop-id l = record {
  some : l.known.some ≡ is_some_known (fin.get l.times) (take l.id-index l.ids);
  all : l.known.all ≡ are_all_known (fin.get l.times) (take l.id-index l.ids);
  time : l.known.time ≡ known_time (fin.get l.times) (take l.id-index l.ids);
  small : l.known.time ≤ l.id-index * 2 ^ 64;
}

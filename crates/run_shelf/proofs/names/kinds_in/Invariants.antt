use Rattle.std.proofs.Common.{◌≡◌, length, map, take, Some}
use Rattle.run_shelf.proofs.names.kinds_in.Given as goal

abbrev pub invariant-loop-mark : goal.invariant-loop-mark
invariant-loop-mark l = record {
  front : map Some l.kinds.items ≡ take l.mark-index l.marks;
  count : length l.kinds.items ≡ l.mark-index;
}

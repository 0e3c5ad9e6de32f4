use Rattle.std.proofs.Common.{option_map, take}
use Rattle.regex.specs.Strings.{matcher_pattern}
use Rattle.partition_times.specs.Names.{group_of}
use Rattle.partition_times.specs.Gathered.{SearchesFor, AreGathered}
use Rattle.partition_times.proofs.groups.Groups.gathered.Given as goal

abbrev pub invariant-loop-id : goal.invariant-loop-id
invariant-loop-id l = record {
  searches : SearchesFor l.self (option_map matcher_pattern l.matcher);
  gathered : AreGathered (group_of l.self) (take l.id-index l.ids) l.lists;
}

use Rattle.std.proofs.Common.{◌≡◌, ◌++◌, take, All}
use Rattle.std.specs.List.{flat_map}
use Rattle.run_ledger.specs.Cuts.{IsTimedAt, entry_at}
use Rattle.run_ledger.proofs.times_cache.write_times.Given as goal

-- the entries so far, whose ids are texts with their times
abbrev pub invariant-loop-id : goal.invariant-loop-id
invariant-loop-id l = record {
  bytes : l.bytes.items ≡ l.fn.bytes.items ++ flat_map (entry_at l.times) (take l.id-index l.ids);
  timed : All (IsTimedAt l.times) (take l.id-index l.ids);
}

use Rattle.std.proofs.Common.{◌≡◌, ◌++◌, take}
use Rattle.std.specs.List.{flat_map}
use Rattle.last_failures.specs.Last.{failures_in}
use Rattle.last_failures.specs.Texts.{block_of}
use Rattle.last_failures.proofs.texts.put_blocks.Given as goal

abbrev pub invariant-loop-id : goal.invariant-loop-id
invariant-loop-id l = l.text.items ≡ l.fn.text.items ++ flat_map (block_of (failures_in l.failures)) (take l.id-index l.ids)

use Rattle.std.proofs.Common.{◌≡◌, ◌++◌, take}
use Rattle.std.specs.FinMap as fin
use Rattle.std.specs.List.{flat_map}
use Rattle.last_failures.specs.Last.{failures_in}
use Rattle.last_failures.specs.Texts.{packets_or_none}
use Rattle.last_failures.proofs.texts.last_packets_text.Given as goal

abbrev pub invariant-loop-id : goal.invariant-loop-id
invariant-loop-id l = l.out.items ≡ l.fn.out.items ++ flat_map (λ id. packets_or_none (fin.get (failures_in l.failures) id)) (take l.id-index l.ids)

use Rattle.std.proofs.Common.{◌≡◌, map, take}
use Rattle.skip_reasons.specs.Skips.{reasons_of}
use Rattle.skip_reasons.proofs.skips.reasons.Given as goal

abbrev pub invariant-loop-row : goal.invariant-loop-row
invariant-loop-row l = map (λ reason. reason.now) l.reasons.items ≡ reasons_of (take l.row-index l.rows)

use Rattle.std.proofs.Common.{◌≡◌, map, take}
use Rattle.skip_reasons.specs.Skips.{tally, tallies_of}
use Rattle.skip_reasons.proofs.skips.tallied.Given as goal

abbrev pub invariant-loop-reason : goal.invariant-loop-reason
invariant-loop-reason l = map (λ t. tally t.reason.now t.tests) l.tallies.items ≡ tallies_of (map (λ reason. reason.now) (take l.reason-index l.reasons))

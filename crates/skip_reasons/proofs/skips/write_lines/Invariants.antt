use Rattle.std.proofs.Common.{◌≡◌, ◌++◌, map, take}
use Rattle.std.specs.List.{flat_map}
use Rattle.skip_reasons.specs.Skips.{tally, skip_line}
use Rattle.skip_reasons.proofs.skips.write_lines.Given as goal

abbrev pub invariant-loop-tally : goal.invariant-loop-tally
invariant-loop-tally l = l.text.items ≡ l.fn.text.items ++ flat_map skip_line (map (λ t. tally t.reason.now t.tests) (take l.tally-index l.tallies))

use Rattle.std.proofs.Common.{◌≡◌, ◌-◌, ◌≤◌}
use Rattle.stream_reader.specs.Run.{AreForeign}
use Rattle.stream_reader.proofs.foreign_bytes.foreign_run.Given as goal

-- the bytes looked at are foreign
abbrev pub invariant-loop-count : goal.invariant-loop-count
invariant-loop-count l = record { same : l.buffer ≡ l.fn.buffer; low : l.known ≤ l.count; high : l.count ≤ l.room; are_foreign : AreForeign l.ended l.fn.buffer l.count }

abbrev pub decreases-loop-count : goal.decreases-loop-count
decreases-loop-count l = l.room - l.count

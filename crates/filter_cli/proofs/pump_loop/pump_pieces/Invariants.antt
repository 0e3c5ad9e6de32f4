use Rattle.std.proofs.Common.{◌≡◌, ◌+◌, ◌-◌, ◌≤◌, List, ℕ, [], length}
use Rattle.std.specs.Io.KnownBytes.{Consumes, Appends}
use Rattle.edge_io.specs.Limits.{most_bytes}
use Rattle.filter_cli.proofs.pump_loop.pump_pieces.Given as goal

-- the bytes read so far were fed, and what they decide was written
abbrev pub invariant-loop-count : goal.invariant-loop-count
invariant-loop-count g l = record {
  read : (fed shown : List ℕ) × Consumes (g.I.Source.seen l.initial.input).told (g.I.Source.seen l.input).told fed × Appends (g.O.Sink.seen l.initial.out).told (g.O.Sink.seen l.out).told shown × (length fed ≡ l.total) × g.F.Filter.has l.filter fed shown;
  seen : (fed shown : List ℕ) → g.F.Filter.seen l.filter fed shown → g.F.Filter.seen l.fn.filter fed shown;
  whole : (fed all : List ℕ) (status : ℕ) → g.F.Filter.whole l.filter fed all status → g.F.Filter.whole l.fn.filter fed all status;
  ready : g.F.Filter.ready l.filter;
  few : l.total ≤ most_bytes;
  empty : l.text.items ≡ [];
  input : (g.I.Source.seen l.input).faults ≡ (g.I.Source.seen l.initial.input).faults;
  out : (g.O.Sink.seen l.out).faults ≡ (g.O.Sink.seen l.initial.out).faults;
}

abbrev pub decreases-loop-count : goal.decreases-loop-count
decreases-loop-count g l = most_bytes + 1 - l.total

use Rattle.std.proofs.Common.{◌≡◌, ◌⊎◌, ◌+◌, ◌-◌, ◌≤◌, List, ℕ, [], length}
use Rattle.std.specs.Io.KnownBytes.{Consumes, Appends}
use Rattle.edge_io.specs.Limits.{most_bytes}
use Rattle.filter_cli.specs.FileReads.{left_of_file, IsThere}
use Rattle.filter_cli.proofs.file_loop.pump_file.Given as goal

-- the bytes of the file read so far were fed, and what they decide was written
abbrev pub invariant-loop-count : goal.invariant-loop-count
invariant-loop-count g l = record {
  read : (fed shown : List ℕ) × Consumes (left_of_file l.name 0 (g.S.Site.seen l.initial.site).told) (left_of_file l.name l.total (g.S.Site.seen l.site).told) fed × Appends (g.O.Sink.seen l.initial.out).told (g.O.Sink.seen l.out).told shown × (length fed ≡ l.total) × g.F.Filter.has l.filter fed shown;
  seen : (fed shown : List ℕ) → g.F.Filter.seen l.filter fed shown → g.F.Filter.seen l.fn.filter fed shown;
  whole : (fed all : List ℕ) (status : ℕ) → g.F.Filter.whole l.filter fed all status → g.F.Filter.whole l.fn.filter fed all status;
  ready : g.F.Filter.ready l.filter;
  few : l.total ≤ most_bytes;
  empty : l.text.items ≡ [];
  files : (g.S.Site.seen l.site).told ≡ (g.S.Site.seen l.initial.site).told;
  begun : ((g.O.Sink.seen l.out) ≡ (g.O.Sink.seen l.initial.out)) ⊎ IsThere l.name (g.S.Site.seen l.initial.site).told;
  site : (g.S.Site.seen l.site).faults ≡ (g.S.Site.seen l.initial.site).faults;
  out : (g.O.Sink.seen l.out).faults ≡ (g.O.Sink.seen l.initial.out).faults;
}

abbrev pub decreases-loop-count : goal.decreases-loop-count
decreases-loop-count g l = most_bytes + 1 - l.total

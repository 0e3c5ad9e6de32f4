use Rattle.std.proofs.Common.{◌≡◌, ◌+◌, ◌-◌, ◌*◌, length, take}
use Rattle.edge_io.specs.Steps.{Goes}
use Rattle.isolation_bisect.specs.Verdicts.{binary_digits}
use Rattle.suite_causes.specs.Searching.{HasAsked}
use Rattle.suite_causes.proofs.cause_search.search_cause.Given as goal

-- the probes so far were asked, and no start failed
abbrev pub invariant-loop-probe : goal.invariant-loop-probe
invariant-loop-probe g l = record {
  candidates : l.bisect.candidates ≡ l.count;
  asked : Goes (g.S.Spawner.seen l.fn.spawner).told (g.S.Spawner.seen l.spawner).told (HasAsked l.conf (take l.count l.ids) l.test l.bisect.asked);
  sum : (g.S.Spawner.seen l.spawner).faults ≡ (g.S.Spawner.seen l.fn.spawner).faults;
}

abbrev pub decreases-loop-probe : goal.decreases-loop-probe
decreases-loop-probe g l = (2 * binary_digits l.count + 2) - length l.bisect.asked

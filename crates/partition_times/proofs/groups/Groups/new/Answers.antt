use Rattle.partition_times.proofs.PatternLemmas.{pattern_of_compiled}
use Rattle.partition_times.proofs.groups.Groups.new.Goals.{in-Some+in_ok-compiled-in-Some, in-None}
use Rattle.partition_times.proofs.groups.Groups.new.Goals as goal

pub returns-clause-good : goal.returns-clause-good
returns-clause-good c = elim c.match-pattern.branch [
  | in-Some+in_ok-compiled-in-Some w ↦ rw w.in-Some.is (pattern_of_compiled _ _ w.in_ok-compiled-in-Some.ensures.ok)
  | in-None w ↦ rw w.in-None.is tt
]

use Rattle.std.proofs.Common.{◌≡◌, length}
use Rattle.stream_end.specs.Inside.{ends_inside_behind}
use Rattle.stream_end.proofs.inside.ends_inside.Given as goal

-- what is left ends as the whole does
abbrev pub invariant-loop-next : goal.invariant-loop-next
invariant-loop-next l = ends_inside_behind l.fn.behind l.fn.bytes ≡ ends_inside_behind l.character l.rest

abbrev pub decreases-loop-next : goal.decreases-loop-next
decreases-loop-next l = length l.rest

use Rattle.std.proofs.Common.{◌≤◌, length}
use Rattle.packet_codec.specs.Retagging.{lent_bytes}
use Rattle.event_sift.proofs.TagLemmas.{ComesBehind}
use Rattle.event_sift.proofs.lent_tags.place_for.Given as goal

abbrev pub decreases-loop-place : goal.decreases-loop-place
decreases-loop-place l = l.place

abbrev pub invariant-loop-place : goal.invariant-loop-place
invariant-loop-place l = record { within : l.place ≤ length l.tags; behind : ComesBehind (lent_bytes l.tags) l.place l.tag }

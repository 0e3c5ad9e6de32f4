use Rattle.std.proofs.Common.{◌≡◌}
use Rattle.event_sift.specs.Keeping.{keeps}
use Rattle.event_sift.specs.Released.{released_by}
use Rattle.event_sift.specs.Sifted.{Holds}
use Rattle.event_sift.proofs.filtered_list.take_all.Given as goal

abbrev pub invariant-loop-event : goal.invariant-loop-event
invariant-loop-event g l = record {
  predicate : g.P.Predicate.rules l.sift.predicate ≡ l.fn.sift.rules.now;
  rules : l.sift.rules.now ≡ l.fn.sift.rules.now;
  held : Holds l.sift.held l.yielded;
  released : l.released.items ≡ released_by (keeps l.fn.sift.rules.now) l.yielded;
  next : (goal.iterator-loop-event g).can_next l.event-iterator;
  finite : (goal.iterator-loop-event g).is_finite l.event-iterator;
}

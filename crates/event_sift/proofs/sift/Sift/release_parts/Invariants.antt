use Rattle.std.proofs.Common.{◌≡◌, ◌++◌, map}
use Rattle.event_sift.specs.Keeping.{keeps}
use Rattle.event_sift.proofs.SiftLemmas.{kept_entry}
use Rattle.event_sift.proofs.sift.Sift.release_parts.Given as goal

abbrev pub invariant-loop-key : goal.invariant-loop-key
invariant-loop-key g l = record {
  gives : l.parts.items ++ map (kept_entry (keeps l.fn.self.rules.now)) l.key-iterator ≡ map (kept_entry (keeps l.fn.self.rules.now)) l.initial.key-iterator;
  rules : l.self.rules.now ≡ l.fn.self.rules.now;
  predicate : g.P.Predicate.rules l.self.predicate ≡ l.fn.self.rules.now;
}

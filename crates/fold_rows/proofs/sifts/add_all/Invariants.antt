use Rattle.std.proofs.Common.{◌≡◌}
use Rattle.event_sift.specs.Sifted.{predicate_of, rules_asked, rules_of}
use Rattle.fold_rows.proofs.sifts.add_all.Given as goal

abbrev pub invariant-loop-line : goal.invariant-loop-line
invariant-loop-line l = rules_asked (predicate_of l.sift) ≡ rules_of l.sift

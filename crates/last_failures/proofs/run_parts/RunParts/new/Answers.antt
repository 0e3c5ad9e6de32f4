use Rattle.std.proofs.Common.{[], false, sym, subst}
use Rattle.stream_reader.specs.Stream.{Held, BeginsWithNotes}
use Rattle.stream_reader.proofs.TurnLemmas.{gives_none}
use Rattle.last_failures.proofs.run_parts.RunParts.new.Goals as goal

pub returns-clause-has : goal.returns-clause-has
returns-clause-has c = λ wanted. record {
  notes = [];
  begins = subst (λ (h : Held). BeginsWithNotes [] [] h.bytes) (sym c.in_ok-reader.ensures) (gives_none false []);
  gathered_is = c.new-2.ensures wanted;
}

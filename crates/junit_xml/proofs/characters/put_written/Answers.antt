use Rattle.std.proofs.Common.{◌++◌, List, ℕ, ap, arith, length-drop, ◌∙◌, sym}
use Rattle.std.proofs.lemmas.List.{take_rest, drop-drop}
use Rattle.packet_codec.proofs.WritingLemmas.{kept_twice}
use Rattle.junit_xml.specs.Characters.{written}
use Rattle.junit_xml.proofs.WritingLemmas.{all_done}
use Rattle.junit_xml.proofs.characters.put_written.Goals as goal

pub loop-done-preserved : goal.loop-done-preserved
loop-done-preserved c =
    let bound = rw (take_rest, length-drop) at c.in_ok-done.ensures.within in
    let bytes = c.args.bytes.now in
    let done = c.loop-done.done in
    record {
      within = omega arith;
      ok = ap (λ (l : List ℕ). c.put_front.new.text.items ++ written c.args.place l) (sym (drop-drop c.in_ok-done.field-0 done bytes)) ∙ (rw take_rest at c.in_ok-done.ensures.ok) ∙ c.loop-done.invariant.ok;
      kept = kept_twice _ _ _ c.loop-done.invariant.kept c.in_ok-done.ensures.kept;
    }

pub returns : goal.returns
returns c = record {
  ok = all_done _ _ _ _ _ (omega arith) c.loop-done.invariant.ok;
  kept = c.loop-done.invariant.kept;
}

pub returns-in_err-done-clause-kept : goal.returns-in_err-done-clause-kept
returns-in_err-done-clause-kept c = kept_twice _ _ _ c.loop-done.invariant.kept c.in_err-done.ensures.kept

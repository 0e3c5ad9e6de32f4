use Rattle.std.proofs.Common.{rules}
use Rattle.std.proofs.lemmas.List.Elements.{All-nil}
use Rattle.sub_number.specs.Texts.{IsText}
use Rattle.packet_codec.specs.Shapes.{ByteRun}
use Rattle.packet_codec.proofs.GrammarLemmas.{found_are}
use Rattle.packet_codec.proofs.RunsLeft.{SameTexts, left_start, left_none, left_next, left_end, same_texts_start, same_texts_next, no_texts, answers_no, answers_yes}
use Rattle.packet_codec.proofs.packet.are_texts.Goals as goal

pub loop-init : goal.loop-init
loop-init c = record { are_bytes = c.type_inv.bytes; left = λ runs shown. left_start _ _ runs (SameTexts runs) shown (same_texts_start runs) }

pub loop-preserved : goal.loop-preserved
loop-preserved c =
    let text : IsText c.in-Some.run'.now = search rules in
    record {
      are_bytes = found_are ByteRun _ _ _ c.loop.invariant.are_bytes c.in-Some.ensures.found;
      left = λ runs shown. left_next _ _ _ _ _ (SameTexts runs) (SameTexts runs) c.loop.invariant.are_bytes c.loop-test.true (c.loop.invariant.left runs shown) c.in-Some.ensures.found (λ others same. same_texts_next runs others _ text same);
    }

pub returns-in_default : goal.returns-in_default
returns-in_default c = λ runs shown. answers_no (λ texts. left_none _ _ _ _ c.loop-test.true (c.loop.invariant.left runs shown) c.in_default.ensures.none)

pub returns-then-not-is_text : goal.returns-then-not-is_text
returns-then-not-is_text c =
    let other : IsText c.in-Some.run'.now → ⊥ = search rules in
    λ runs shown. answers_no (λ texts. no_texts _ _ _ _ _ runs c.loop.invariant.are_bytes c.loop-test.true (c.loop.invariant.left runs shown) c.in-Some.ensures.found other texts)

pub returns : goal.returns
returns c = λ runs shown. answers_yes ((left_end _ _ _ (SameTexts runs) c.loop-test.false (c.loop.invariant.left runs shown)).0 (All-nil IsText))

use Rattle.std.proofs.Common.{◌≡◌, ◌<◌, ◌≤◌, All, arith, rules}
use Rattle.std.proofs.lemmas.List.Elements.{All-tail}
use Rattle.sub_number.specs.Texts.{IsShortText}
use Rattle.packet_codec.specs.Shapes.{ByteRun}
use Rattle.packet_codec.proofs.GrammarLemmas.{found_are}
use Rattle.packet_codec.proofs.RunsLeft.{SameBefore, left_none, left_next, next_text, some_of, same_next, no_same, same_all, answers_no, answers_yes}
use Rattle.packet_codec.proofs.fields.are_same.Goals as goal

pub unwrap-requires : goal.unwrap-requires
unwrap-requires c =
    let less : c.loop-text.text-index < c.args.count = omega (arith, c.loop-text-test.true, c.loop-text.invariant.size) in
    some_of _ c.run_at.ensures.none (left_none _ _ _ _ less (c.loop-text.invariant.left c.requires.0 c.requires.1))

pub is_same-requires : goal.is_same-requires
is_same-requires c =
    let less : c.loop-text.text-index < c.args.count = omega (arith, c.loop-text-test.true, c.loop-text.invariant.size) in
    next_text _ _ _ _ _ c.loop-text.invariant.are_bytes less c.loop-text.invariant.texts (rw c.unwrap.ensures at c.run_at.ensures.found)

pub returns-then-not-is_same : goal.returns-then-not-is_same
returns-then-not-is_same c =
    let less : c.loop-text.text-index < c.args.count = omega (arith, c.loop-text-test.true, c.loop-text.invariant.size) in
    let other : c.unwrap.result.0.now ≡ c.text-item.result → ⊥ = search rules in
    λ runs shown. answers_no (λ same. no_same _ _ _ _ _ runs _ _ c.loop-text.invariant.are_bytes less c.loop-text-test.true c.text-item.is (c.loop-text.invariant.left runs shown) (rw c.unwrap.ensures at c.run_at.ensures.found) other same)

pub loop-text-preserved : goal.loop-text-preserved
loop-text-preserved c =
    let less : c.loop-text.text-index < c.args.count = omega (arith, c.loop-text-test.true, c.loop-text.invariant.size) in
    let found = rw c.unwrap.ensures at c.run_at.ensures.found in
    let same : c.unwrap.result.0.now ≡ c.text-item.result = search rules in
    record {
      size = c.loop-text.invariant.size;
      are_bytes = found_are ByteRun _ _ _ c.loop-text.invariant.are_bytes found;
      texts = left_next _ _ _ _ _ (All IsShortText) (All IsShortText) c.loop-text.invariant.are_bytes less c.loop-text.invariant.texts found (λ others whole. All-tail IsShortText _ others whole);
      left = λ runs shown. left_next _ _ _ _ _ _ (SameBefore c.args.texts.now _ runs) c.loop-text.invariant.are_bytes less (c.loop-text.invariant.left runs shown) found (λ others before. same_next _ runs others _ _ _ c.loop-text-test.true c.text-item.is same before);
    }

pub returns : goal.returns
returns c =
    let end : c.args.count ≤ c.loop-text.text-index = omega (arith, c.loop-text-test.false, c.loop-text.invariant.size) in
    λ runs shown. answers_yes (same_all _ _ runs _ _ c.loop-text.invariant.size end (c.loop-text.invariant.left runs shown))

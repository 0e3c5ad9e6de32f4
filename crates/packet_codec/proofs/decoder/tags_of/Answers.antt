use Rattle.std.proofs.Common.{◌≡◌, ◌++◌, ◌∷◌, [], refl, sym, ◌∙◌, All, arith}
use Rattle.std.proofs.lemmas.List.{append-nil}
use Rattle.std.proofs.lemmas.Grind.{common_steps}
use Rattle.std.proofs.lemmas.List.Elements.{All-tail}
use Rattle.sub_number.specs.Texts.{IsShortText}
use Rattle.packet_codec.specs.Shapes.{ByteRun}
use Rattle.packet_codec.proofs.GrammarLemmas.{found_are}
use Rattle.packet_codec.proofs.RunsLeft.{left_start, left_none, left_next, left_end, next_text, copied_next, some_of}
use Rattle.packet_codec.proofs.decoder.tags_of.Goals as goal

pub loop-init : goal.loop-init
loop-init c = record { are_bytes = c.type_inv.bytes; texts = left_start _ _ c.requires.0 (All IsShortText) c.requires.1 c.requires.2; left = λ runs shown. left_start _ _ runs _ shown (rw c.new-tags.ensures refl) }

pub unwrap-requires : goal.unwrap-requires
unwrap-requires c = some_of _ c.run_at.ensures.none (left_none _ _ _ _ c.loop-test.true (c.loop.invariant.left c.requires.0 c.requires.1))

pub from_tested-requires : goal.from_tested-requires
from_tested-requires c = next_text _ _ _ _ _ c.loop.invariant.are_bytes c.loop-test.true c.loop.invariant.texts (rw c.unwrap.ensures at c.run_at.ensures.found)

pub loop-preserved : goal.loop-preserved
loop-preserved c =
    let found = rw c.unwrap.ensures at c.run_at.ensures.found in
    let pushed : c.push.new.self ≡ c.loop.tags ++ c.in_ok-from_tested.field-0 ∷ [] = grind (arith, common_steps) in
    record {
      are_bytes = found_are ByteRun _ _ _ c.loop.invariant.are_bytes found;
      texts = left_next _ _ _ _ _ (All IsShortText) (All IsShortText) c.loop.invariant.are_bytes c.loop-test.true c.loop.invariant.texts found (λ others whole. All-tail IsShortText _ others whole);
      left = λ runs shown. left_next _ _ _ _ _ _ _ c.loop.invariant.are_bytes c.loop-test.true (c.loop.invariant.left runs shown) found (λ others whole. copied_next _ _ others runs _ _ pushed c.in_ok-from_tested.ensures whole);
    }

pub returns : goal.returns
returns c = λ runs shown. sym (append-nil c.loop.tags) ∙ left_end _ _ _ _ c.loop-test.false (c.loop.invariant.left runs shown)

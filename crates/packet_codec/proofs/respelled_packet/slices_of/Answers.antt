use Rattle.std.proofs.Common.{◌≡◌, ◌++◌, ◌∷◌, ◌∙◌, [], List, ℕ, ap, sym, refl, arith}
use Rattle.std.specs.Borrow.{Bor}
use Rattle.std.proofs.lemmas.List.{append-nil, map-append}
use Rattle.std.proofs.lemmas.Grind.{common_steps}
use Rattle.packet_codec.specs.Retagging.{lent_bytes}
use Rattle.packet_codec.specs.Shapes.{ByteRun}
use Rattle.packet_codec.proofs.GrammarLemmas.{found_are}
use Rattle.packet_codec.proofs.RunsLeft.{left_start, left_none, left_next, left_end, copied_next, some_of}
use Rattle.packet_codec.proofs.respelled_packet.slices_of.Goals as goal

pub loop-init : goal.loop-init
loop-init c =
    let none : c.new-slices.result.items ≡ [] = grind (arith, common_steps) in
    record { are_bytes = c.type_inv.bytes; left = λ runs shown. left_start _ _ runs _ shown (rw none refl) }

pub unwrap-requires : goal.unwrap-requires
unwrap-requires c = some_of _ c.run_at.ensures.none (left_none _ _ _ _ c.loop-test.true (c.loop.invariant.left c.requires.0 c.requires.1))

lent_more : (before after : List (Bor (List ℕ))) (slice : Bor (List ℕ)) → after ≡ before ++ slice ∷ [] → lent_bytes after ≡ lent_bytes before ++ slice.now ∷ []
lent_more before after slice pushed = ap lent_bytes pushed ∙ map-append (λ (slice : Bor (List ℕ)). slice.now) before (slice ∷ [])

pub loop-preserved : goal.loop-preserved
loop-preserved c =
    let found = rw c.unwrap.ensures at c.run_at.ensures.found in
    let pushed : c.push.new.self.items ≡ c.loop.slices.items ++ c.unwrap.result.0 ∷ [] = grind (arith, common_steps) in
    record {
      are_bytes = found_are ByteRun _ _ _ c.loop.invariant.are_bytes found;
      left = λ runs shown. left_next _ _ _ _ _ _ _ c.loop.invariant.are_bytes c.loop-test.true (c.loop.invariant.left runs shown) found (λ others whole. copied_next _ _ others runs _ _ (lent_more _ _ _ pushed) refl whole);
    }

pub returns : goal.returns
returns c = λ runs shown. sym (append-nil (lent_bytes c.loop.slices.items)) ∙ left_end _ _ _ _ c.loop-test.false (c.loop.invariant.left runs shown)

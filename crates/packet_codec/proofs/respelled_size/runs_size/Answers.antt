use Rattle.std.proofs.Common.{◌≡◌, ◌+◌, List, ℕ, ◌∷◌, length, arith}
use Rattle.std.specs.List.{flat_map}
use Rattle.std.proofs.lemmas.List.{length-append}
use Rattle.packet_codec.specs.Canonical.{canonical_text}
use Rattle.packet_codec.specs.Shapes.{ByteRun}
use Rattle.packet_codec.proofs.GrammarLemmas.{found_are}
use Rattle.packet_codec.proofs.RunsLeft.{left_start, left_none, left_next, left_end, some_of}
use Rattle.packet_codec.proofs.respelled_size.runs_size.Goals as goal

pub loop-init : goal.loop-init
loop-init c = record { are_bytes = c.type_inv.bytes; small = omega arith; left = λ runs shown. left_start _ _ runs _ shown (omega arith) }

pub unwrap-requires : goal.unwrap-requires
unwrap-requires c = some_of _ c.run_at.ensures.none (left_none _ _ _ _ c.loop-test.true (c.loop.invariant.left c.requires.0 c.requires.1))

more : (sum added : ℕ) (run : List ℕ) (others : List (List ℕ)) (all : ℕ) → added ≡ length (canonical_text run) → sum + length (flat_map canonical_text (run ∷ others)) ≡ all → (sum + added) + length (flat_map canonical_text others) ≡ all
more sum added run others all is whole = omega (arith, whole, is, length-append (canonical_text run) (flat_map canonical_text others))

pub loop-preserved : goal.loop-preserved
loop-preserved c =
    let found = rw c.unwrap.ensures at c.run_at.ensures.found in
    record {
      are_bytes = found_are ByteRun _ _ _ c.loop.invariant.are_bytes found;
      small = omega arith;
      left = λ runs shown. left_next _ _ _ _ _ _ _ c.loop.invariant.are_bytes c.loop-test.true (c.loop.invariant.left runs shown) found (λ others whole. more _ _ c.unwrap.result.0.now others _ c.bytes_size-sum.ensures.size whole);
    }

pub returns-clause-size : goal.returns-clause-size
returns-clause-size c = λ runs shown. omega (arith, left_end _ _ _ _ c.loop-test.false (c.loop.invariant.left runs shown))

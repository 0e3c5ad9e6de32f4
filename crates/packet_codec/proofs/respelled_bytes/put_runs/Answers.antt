use Rattle.std.proofs.Common.{◌≡◌, ◌++◌, ◌∷◌, ◌∙◌, List, ℕ, ap, sym, refl, append_assoc, arith}
use Rattle.std.specs.List.{flat_map}
use Rattle.std.proofs.lemmas.List.{append-nil}
use Rattle.std.proofs.lemmas.Grind.{common_steps}
use Rattle.packet_codec.specs.Canonical.{canonical_text}
use Rattle.packet_codec.specs.Shapes.{ByteRun}
use Rattle.packet_codec.proofs.GrammarLemmas.{found_are}
use Rattle.packet_codec.proofs.ShapeLemmas.{number_below}
use Rattle.packet_codec.proofs.WritingLemmas.{kept_twice}
use Rattle.packet_codec.proofs.RunsLeft.{left_start, left_none, left_next, left_end, some_of}
use Rattle.packet_codec.proofs.respelled_bytes.put_runs.Goals as goal

pub loop-init : goal.loop-init
loop-init c = record { are_bytes = c.type_inv.bytes; kept = grind (arith, common_steps); left = λ runs shown. left_start _ _ runs _ shown refl }

pub unwrap-requires : goal.unwrap-requires
unwrap-requires c = some_of _ c.run_at.ensures.none (left_none _ _ _ _ c.loop-test.true (c.loop.invariant.left c.requires.0 c.requires.1))

pub put_bytes-requires : goal.put_bytes-requires
put_bytes-requires c =
    let found = rw c.unwrap.ensures at c.run_at.ensures.found in
    number_below _ _ found.spelled.number_spelled

put_more : (middle new run whole : List ℕ) (others : List (List ℕ)) → new ≡ middle ++ canonical_text run → middle ++ flat_map canonical_text (run ∷ others) ≡ whole → new ++ flat_map canonical_text others ≡ whole
put_more middle new run whole others put all = ap (λ (l : List ℕ). l ++ flat_map canonical_text others) put ∙ append_assoc middle (canonical_text run) (flat_map canonical_text others) ∙ all

pub loop-preserved : goal.loop-preserved
loop-preserved c =
    let found = rw c.unwrap.ensures at c.run_at.ensures.found in
    record {
      are_bytes = found_are ByteRun _ _ _ c.loop.invariant.are_bytes found;
      kept = kept_twice _ _ _ c.loop.invariant.kept c.in_ok-put_bytes.ensures.kept;
      left = λ runs shown. left_next _ _ _ _ _ _ _ c.loop.invariant.are_bytes c.loop-test.true (c.loop.invariant.left runs shown) found (λ others whole. put_more c.loop.out.items _ c.unwrap.result.0.now _ others c.in_ok-put_bytes.ensures.ok whole);
    }

pub returns-clause-ok : goal.returns-clause-ok
returns-clause-ok c = λ runs shown. sym (append-nil c.loop.out.items) ∙ left_end _ _ _ _ c.loop-test.false (c.loop.invariant.left runs shown)

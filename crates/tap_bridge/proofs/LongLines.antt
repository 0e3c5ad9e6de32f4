-- Lines that are too long, for what reads the lines: they change nothing that a reader knows, and give their pieces.
use Rattle.std.proofs.Common.{◌≡◌, ℕ, zero, suc, ◌+◌, ◌*◌, ◌/◌, ◌<◌, ◌≤◌, List, [], ◌∷◌, ◌++◌, map, take, drop, length, refl, sym, ◌∙◌, ap, subst, arith, lt-ltb, length-append, drop-drop, drop_at, take_all}
use Rattle.std.proofs.lemmas.Bool.{cond-true}
use Rattle.std.proofs.lemmas.List.{map_push, take_at}
use Rattle.std.specs.List.{range_with_len}
use Rattle.stream_reader.specs.Notes.{stdout_event}
use Rattle.tap_bridge.specs.declared.reader.TapReader.{TapReader}
use Rattle.tap_bridge.specs.Events.{longest_tap_line, input_of, too_long, events_at, tap_events_so_far, pieces_of}
use Rattle.tap_bridge.specs.Kept.{HasTakenLines, HasReadLines}
use Rattle.tap_bridge.proofs.ReadLemmas.{knows_too_long, so_far_push}

input_is : (bytes : List ℕ) → longest_tap_line < length bytes → too_long bytes ≡ input_of bytes
input_is bytes more = sym (cond-true _ _ _ (lt-ltb longest_tap_line (length bytes) more))

-- a reader is given no such line, and knows it
pub too_long_is_read : (reader : TapReader) (lines : List (List ℕ)) (bytes : List ℕ) → longest_tap_line < length bytes → HasReadLines reader lines → HasReadLines reader (lines ++ bytes ∷ [])
too_long_is_read reader lines bytes more known =
    subst (HasTakenLines reader) (ap (λ input. map input_of lines ++ input ∷ []) (input_is bytes more) ∙ sym (map_push input_of lines bytes))
    (knows_too_long reader (map input_of lines) bytes known)

-- it gives its pieces, at once
pub too_long_gives : (lines : List (List ℕ)) (bytes : List ℕ) → longest_tap_line < length bytes → tap_events_so_far (lines ++ bytes ∷ []) ≡ tap_events_so_far lines ++ map stdout_event (pieces_of bytes)
too_long_gives lines bytes more =
    so_far_push lines bytes ∙ ap (λ input. tap_events_so_far lines ++ events_at (map input_of lines) input) (sym (input_is bytes more))

-- Pieces.

shifted : (f : ℕ → List ℕ) (first count : ℕ) → map f (range_with_len (first + 1) count) ≡ map (λ k. f (k + 1)) (range_with_len first count)
shifted f first zero = refl
shifted f first (suc count) = ap (λ pieces. f (first + 1) ∷ pieces) (shifted f (first + 1) count)

-- bytes that fit one piece are one
pub one_piece : (bytes : List ℕ) → 0 < length bytes → length bytes ≤ longest_tap_line → pieces_of bytes ≡ bytes ∷ []
one_piece bytes some few =
    let count : (length bytes + 65535) / 65536 ≡ 1 = omega arith in
    ap (λ n. map (λ k. take 65536 (drop (65536 * k) bytes)) (range_with_len 0 n)) count ∙ ap (λ piece. piece ∷ []) (take_all 65536 bytes few)

-- a full piece in front of more bytes is the first one
pub piece_in_front : (piece bytes : List ℕ) → length piece ≡ longest_tap_line → 0 < length bytes → pieces_of (piece ++ bytes) ≡ piece ∷ pieces_of bytes
piece_in_front piece bytes full some =
    let size = length-append piece bytes in
    let count : (length (piece ++ bytes) + 65535) / 65536 ≡ suc ((length bytes + 65535) / 65536) = omega arith in
    let rest : (k : ℕ) → take 65536 (drop (65536 * (k + 1)) (piece ++ bytes)) ≡ take 65536 (drop (65536 * k) bytes) = λ k.
    let place : 65536 * (k + 1) ≡ 65536 + 65536 * k = omega arith in
    ap (λ n. take 65536 (drop n (piece ++ bytes))) place
    ∙ ap (take 65536) (sym (drop-drop (65536 * k) 65536 (piece ++ bytes)) ∙ ap (drop (65536 * k)) (drop_at piece bytes 65536 full)) in
    ap (λ n. map (λ k. take 65536 (drop (65536 * k) (piece ++ bytes))) (range_with_len 0 n)) count
    ∙ ap (λ first. first ∷ map (λ k. take 65536 (drop (65536 * k) (piece ++ bytes))) (range_with_len 1 ((length bytes + 65535) / 65536))) (take_at piece bytes 65536 full)
    ∙ ap (λ pieces. piece ∷ pieces) (shifted (λ k. take 65536 (drop (65536 * k) (piece ++ bytes))) 0 ((length bytes + 65535) / 65536)
    ∙ (λ i. map (λ k. rest k i) (range_with_len 0 ((length bytes + 65535) / 65536))))

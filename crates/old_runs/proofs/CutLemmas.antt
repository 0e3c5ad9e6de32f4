-- What bytes give behind some of their line.
use Rattle.std.proofs.Common.{◌≡◌, ℕ, zero, suc, ◌+◌, ◌-◌, ◌*◌, ◌/◌, ◌<◌, ◌≤◌, ◌==◌, ◌&&◌, nat_eq, nat_lt, Bool, true, false, cond, List, [], ◌∷◌, ◌++◌, map, length, take, drop, refl, sym, ap, ◌∙◌, arith, append_assoc, append-nil, length-append, lt-ltb, le-ltb, ne_eqb}
use Rattle.std.specs.List.{flat_map, ends_with, range_with_len}
use Rattle.std.specs.Cmp.Lexicographic.{pointwise}
use Rattle.std.proofs.Math.Seq.{take-append-add, drop-append-add, take-append_seam}
use Rattle.std.proofs.lemmas.Bool.{cond_both, cond-true, cond-false}
use Rattle.std.proofs.lemmas.List.{length-take}
use Rattle.v1_bridge.specs.Lines.{without_newline, HasNoNewline}
use Rattle.v1_bridge.specs.Events.{longest_v1_line, piece_at, full_pieces}
use Rattle.v1_bridge.specs.Cutting.{line_size, lines_behind, lines_of}
use Rattle.v1_bridge.specs.Reading.{Input, line, piece, front_piece, last_piece, inputs_of, last_input}
use Rattle.v1_bridge.proofs.LineLemmas.{one_input}
use Rattle.old_runs.specs.Files.{inputs_in}
use Rattle.old_runs.specs.Lines.{line_front, line_behind, inputs_left, inputs_behind, most_held_of_line}

-- ---- the first line

lines_few : (held bytes more : List ℕ) → HasNoNewline bytes → lines_behind held (bytes ++ more) ≡ lines_behind (held ++ bytes) more
lines_few held [] more plain = ap (λ (l : List ℕ). lines_behind l more) (sym (append-nil held))
lines_few held (byte ∷ bytes) more plain =
    cond-false (byte == 10) ((held ++ byte ∷ []) ∷ lines_behind [] (bytes ++ more)) (lines_behind (held ++ byte ∷ []) (bytes ++ more)) (ne_eqb byte 10 plain.0)
    ∙ lines_few (held ++ byte ∷ []) bytes more plain.1 ∙ ap (λ (l : List ℕ). lines_behind l more) (append_assoc held (byte ∷ []) bytes)

size_few : (bytes more : List ℕ) → HasNoNewline bytes → line_size (bytes ++ more) ≡ length bytes + line_size more
size_few [] more plain = omega arith
size_few (byte ∷ bytes) more plain =
    let this : line_size (byte ∷ bytes ++ more) ≡ suc (line_size (bytes ++ more)) = cond-false (byte == 10) 1 (suc (line_size (bytes ++ more))) (ne_eqb byte 10 plain.0) in
    omega (arith, this, size_few bytes more plain.1)

front_few : (bytes more : List ℕ) → HasNoNewline bytes → line_front (bytes ++ more) ≡ bytes ++ line_front more
front_few bytes more plain = ap (λ n. take n (bytes ++ more)) (size_few bytes more plain) ∙ take-append-add bytes more (line_size more)

behind_few : (bytes more : List ℕ) → HasNoNewline bytes → line_behind (bytes ++ more) ≡ line_behind more
behind_few bytes more plain = ap (λ n. drop n (bytes ++ more)) (size_few bytes more plain) ∙ drop-append-add bytes more (line_size more)

-- the first of the lines, behind bytes of it
first_line : (held bytes : List ℕ) → 0 < length held → lines_behind held bytes ≡ (held ++ line_front bytes) ∷ lines_of (line_behind bytes)
first_line held [] some =
    cond-false (length held == 0) [] (held ∷ []) (ne_eqb (length held) 0 (λ none. omega (arith, some, none))) ∙ ap (λ (l : List ℕ). l ∷ []) (sym (append-nil held))
first_line held (byte ∷ bytes) some = either (λ longer. first_line (held ++ byte ∷ []) bytes longer) (byte == 10)
  where
    longer : 0 < length (held ++ byte ∷ [])
    longer = omega (arith, length-append held (byte ∷ []))

    either : (0 < length (held ++ byte ∷ []) → lines_behind (held ++ byte ∷ []) bytes ≡ ((held ++ byte ∷ []) ++ line_front bytes) ∷ lines_of (line_behind bytes)) → (b : Bool) → cond b ((held ++ byte ∷ []) ∷ lines_behind [] bytes) (lines_behind (held ++ byte ∷ []) bytes)
        ≡ (held ++ take (cond b 1 (suc (line_size bytes))) (byte ∷ bytes)) ∷ lines_of (drop (cond b 1 (suc (line_size bytes))) (byte ∷ bytes))
    either rest true = refl
    either rest false = rest longer ∙ ap (λ (l : List ℕ). l ∷ lines_of (line_behind bytes)) (append_assoc held (byte ∷ []) (line_front bytes))

-- ---- newlines

-- bytes in front do not tell whether others end with a newline
end_of : (front : List ℕ) (byte : ℕ) (bytes : List ℕ) → drop (length (front ++ byte ∷ bytes) - 1) (front ++ byte ∷ bytes) ≡ drop (length (byte ∷ bytes) - 1) (byte ∷ bytes)
end_of front byte bytes =
    let size : length (front ++ byte ∷ bytes) - 1 ≡ length front + (length (byte ∷ bytes) - 1) = omega (arith, length-append front (byte ∷ bytes)) in
    ap (λ n. drop n (front ++ byte ∷ bytes)) size ∙ drop-append-add front (byte ∷ bytes) (length (byte ∷ bytes) - 1)

some_gone : (front : List ℕ) (byte : ℕ) (bytes : List ℕ) → without_newline (front ++ byte ∷ bytes) ≡ front ++ without_newline (byte ∷ bytes)
some_gone front byte bytes =
    let size : length (front ++ byte ∷ bytes) - 1 ≡ length front + (length (byte ∷ bytes) - 1) = omega (arith, length-append front (byte ∷ bytes)) in
    let ends : ends_with nat_eq (front ++ byte ∷ bytes) (10 ∷ []) ≡ ends_with nat_eq (byte ∷ bytes) (10 ∷ []) = ap (pointwise nat_eq (10 ∷ [])) (end_of front byte bytes) in
    let shorter : take (length (front ++ byte ∷ bytes) - 1) (front ++ byte ∷ bytes) ≡ front ++ take (length (byte ∷ bytes) - 1) (byte ∷ bytes) =
    ap (λ n. take n (front ++ byte ∷ bytes)) size ∙ take-append-add front (byte ∷ bytes) (length (byte ∷ bytes) - 1) in
    (λ i. cond (ends i) (shorter i) (front ++ byte ∷ bytes)) ∙ either (ends_with nat_eq (byte ∷ bytes) (10 ∷ []))
  where
    either : (b : Bool) → cond b (front ++ take (length (byte ∷ bytes) - 1) (byte ∷ bytes)) (front ++ byte ∷ bytes) ≡ front ++ cond b (take (length (byte ∷ bytes) - 1) (byte ∷ bytes)) (byte ∷ bytes)
    either true = refl
    either false = refl

plain_end : (bytes : List ℕ) → HasNoNewline bytes → ends_with nat_eq bytes (10 ∷ []) ≡ false
plain_end [] plain = refl
plain_end (byte ∷ []) plain = ap (λ b. b && true) (ne_eqb 10 byte (λ is. plain.0 (sym is)))
plain_end (byte ∷ next ∷ bytes) plain =
    let size : length (byte ∷ next ∷ bytes) - 1 ≡ suc (length (next ∷ bytes) - 1) = omega arith in
    ap (λ n. pointwise nat_eq (10 ∷ []) (drop n (byte ∷ next ∷ bytes))) size ∙ plain_end (next ∷ bytes) plain.1

plain_line : (bytes : List ℕ) → HasNoNewline bytes → without_newline bytes ≡ bytes
plain_line bytes plain = cond-false (ends_with nat_eq bytes (10 ∷ [])) (take (length bytes - 1) bytes) bytes (plain_end bytes plain)

plain_gone : (bytes more : List ℕ) → HasNoNewline bytes → without_newline (bytes ++ more) ≡ bytes ++ without_newline more
plain_gone bytes [] plain = ap without_newline (append-nil bytes) ∙ plain_line bytes plain ∙ sym (append-nil bytes)
plain_gone bytes (byte ∷ more) plain = some_gone bytes byte more

gone_short : (bytes : List ℕ) → length (without_newline bytes) ≤ length bytes
gone_short bytes = cond_both (ends_with nat_eq bytes (10 ∷ [])) (take (length bytes - 1) bytes) bytes (λ (l : List ℕ). length l ≤ length bytes) (λ is. omega (arith, length-take (length bytes - 1) bytes)) (λ is. omega arith)

-- ---- pieces

shifted : (front rest : List ℕ) (k : ℕ) → length front ≡ longest_v1_line → piece_at (front ++ rest) (k + 1) ≡ piece_at rest k
shifted front rest k full =
    let place : longest_v1_line * (k + 1) ≡ length front + longest_v1_line * k = omega (arith, full) in
    ap (λ n. take longest_v1_line (drop n (front ++ rest))) place ∙ ap (take longest_v1_line) (drop-append-add front rest (longest_v1_line * k))

all_shifted : (front rest : List ℕ) (n from : ℕ) → length front ≡ longest_v1_line → map (piece_at (front ++ rest)) (range_with_len (from + 1) n) ≡ map (piece_at rest) (range_with_len from n)
all_shifted front rest zero from full = refl
all_shifted front rest (suc n) from full = λ i. shifted front rest from full i ∷ all_shifted front rest n (from + 1) full i

piece_first : (front rest : List ℕ) → length front ≡ longest_v1_line → full_pieces (front ++ rest) ≡ front ∷ full_pieces rest
piece_first front rest full =
    let count : length (front ++ rest) / longest_v1_line ≡ suc (length rest / longest_v1_line) = omega (arith, full, length-append front rest) in
    let this : piece_at (front ++ rest) 0 ≡ front = ap (λ n. take n (front ++ rest)) (sym full) ∙ take-append_seam front rest in
    ap (λ n. map (piece_at (front ++ rest)) (range_with_len 0 n)) count
    ∙ (λ i. this i ∷ all_shifted front rest (length rest / longest_v1_line) 0 full i)

no_pieces : (rest : List ℕ) → length rest < longest_v1_line → full_pieces rest ≡ []
no_pieces rest few =
    let none : length rest / longest_v1_line ≡ 0 = omega (arith, few) in
    ap (λ n. map (piece_at rest) (range_with_len 0 n)) none

-- a full piece comes first
left_first : (held rest : List ℕ) → length held ≡ longest_v1_line → inputs_left held rest ≡ front_piece held ∷ inputs_left [] rest
left_first held rest full =
    let says = without_newline rest in
    let place : longest_v1_line * (length (held ++ says) / longest_v1_line) ≡ length held + longest_v1_line * (length says / longest_v1_line) = omega (arith, full, length-append held says) in
    let last : drop (longest_v1_line * (length (held ++ says) / longest_v1_line)) (held ++ rest) ≡ drop (longest_v1_line * (length says / longest_v1_line)) rest =
    ap (λ n. drop n (held ++ rest)) place ∙ drop-append-add held rest (longest_v1_line * (length says / longest_v1_line)) in
    λ i. map front_piece (piece_first held says full i) ++ piece (last i) true ∷ []

-- what is held and the rest are told together
left_few : (held bytes rest : List ℕ) → HasNoNewline bytes → inputs_left held (bytes ++ rest) ≡ inputs_left (held ++ bytes) rest
left_few held bytes rest plain =
    let says : held ++ without_newline (bytes ++ rest) ≡ (held ++ bytes) ++ without_newline rest = ap (λ (l : List ℕ). held ++ l) (plain_gone bytes rest plain) ∙ sym (append_assoc held bytes (without_newline rest)) in
    let all : held ++ (bytes ++ rest) ≡ (held ++ bytes) ++ rest = sym (append_assoc held bytes rest) in
    λ i. map front_piece (full_pieces (says i)) ++ piece (drop (longest_v1_line * (length (says i) / longest_v1_line)) (all i)) true ∷ []

-- too few bytes for a piece more
left_last : (held rest : List ℕ) → without_newline rest ≡ [] → length held < longest_v1_line → inputs_left held rest ≡ piece (held ++ rest) true ∷ []
left_last held rest none few =
    let says : held ++ without_newline rest ≡ held = ap (λ (l : List ℕ). held ++ l) none ∙ append-nil held in
    let count : longest_v1_line * (length held / longest_v1_line) ≡ 0 = omega (arith, few) in
    (λ i. map front_piece (full_pieces (says i)) ++ piece (drop (longest_v1_line * (length (says i) / longest_v1_line)) (held ++ rest)) true ∷ [])
    ∙ (λ i. map front_piece (no_pieces held few i) ++ piece (drop (count i) (held ++ rest)) true ∷ [])

-- ---- the laws

-- bytes of a line may be held
pub inputs_few : (long : Bool) (held bytes more : List ℕ) → HasNoNewline bytes → inputs_behind long held (bytes ++ more) ≡ inputs_behind long (held ++ bytes) more
inputs_few false held bytes more plain = ap (flat_map inputs_of) (lines_few held bytes more plain)
inputs_few true held bytes more plain =
    (λ i. inputs_left held (front_few bytes more plain i) ++ inputs_in (behind_few bytes more plain i))
    ∙ ap (λ (l : List Input). l ++ inputs_in (line_behind more)) (left_few held bytes (line_front more) plain)

-- the line goes on
abbrev pub LineGoesOn : List ℕ → Type 0
LineGoesOn [] = ⊥
LineGoesOn (byte ∷ bytes) = byte ≡ 10 → ⊥

-- a line that goes on behind a full piece is too long
too_long : (held : List ℕ) (byte : ℕ) (bytes : List ℕ) → length held ≡ longest_v1_line → (byte ≡ 10 → ⊥) → inputs_of (held ++ byte ∷ bytes) ≡ inputs_left held (byte ∷ bytes)
too_long held byte bytes full on =
    let says = some_gone held byte bytes in
    let some : without_newline (byte ∷ bytes) ≡ byte ∷ without_newline bytes = plain_gone (byte ∷ []) bytes (on, tt) in
    let longer : longest_v1_line < length (without_newline (held ++ byte ∷ bytes)) = omega (arith, full, ap length says, length-append held (without_newline (byte ∷ bytes)), ap length some) in
    cond-true _ _ (line (held ++ byte ∷ bytes) ∷ []) (lt-ltb longest_v1_line (length (without_newline (held ++ byte ∷ bytes))) longer)
    ∙ (λ i. map front_piece (full_pieces (says i)) ++ piece (drop (longest_v1_line * (length (says i) / longest_v1_line)) (held ++ byte ∷ bytes)) true ∷ [])

full_true : (held more : List ℕ) → length held ≡ longest_v1_line → inputs_behind true held more ≡ front_piece held ∷ inputs_behind true [] more
full_true held more full = ap (λ (l : List Input). l ++ inputs_in (line_behind more)) (left_first held (line_front more) full)

full_first : (long : Bool) (held more : List ℕ) → length held ≡ longest_v1_line → (long ≡ false → LineGoesOn more) → inputs_behind long held more ≡ front_piece held ∷ inputs_behind true [] more
full_first true held more full on = full_true held more full
full_first false held [] full on = absurd (on refl)
full_first false held (byte ∷ more) full on =
    let size : line_size (byte ∷ more) ≡ suc (line_size more) = cond-false (byte == 10) 1 (suc (line_size more)) (ne_eqb byte 10 (on refl)) in
    let front : line_front (byte ∷ more) ≡ byte ∷ take (line_size more) more = ap (λ n. take n (byte ∷ more)) size in
    ap (flat_map inputs_of) (first_line held (byte ∷ more) (omega (arith, full)))
    ∙ ap (λ (l : List ℕ). inputs_of (held ++ l) ++ inputs_in (line_behind (byte ∷ more))) front
    ∙ ap (λ (l : List Input). l ++ inputs_in (line_behind (byte ∷ more))) (too_long held byte (take (line_size more) more) full (on refl))
    ∙ ap (λ (l : List ℕ). inputs_left held l ++ inputs_in (line_behind (byte ∷ more))) (sym front)
    ∙ full_true held (byte ∷ more) full

-- bytes fill up a piece
pub inputs_full : (long : Bool) (held front more : List ℕ) → HasNoNewline front → length (held ++ front) ≡ longest_v1_line → (long ≡ false → LineGoesOn more) → inputs_behind long held (front ++ more) ≡ front_piece (held ++ front) ∷ inputs_behind true [] more
inputs_full long held front more plain full on = inputs_few long held front more plain ∙ full_first long (held ++ front) more full on

-- a newline
pub inputs_ended : (long : Bool) (held more : List ℕ) → length held ≤ most_held_of_line long → inputs_behind long held (10 ∷ more) ≡ last_input long (held ++ 10 ∷ []) ∷ inputs_behind false [] more
inputs_ended false held more few = ap (λ (l : List Input). l ++ inputs_in more) (one_input held few)
inputs_ended true held more few = ap (λ (l : List Input). l ++ inputs_in more) (left_last held (10 ∷ []) refl (omega (arith, few)))

-- the end
pub inputs_last : (long : Bool) (held : List ℕ) → length held ≤ most_held_of_line long → ((held ≡ []) × (long ≡ false) → ⊥) → inputs_behind long held [] ≡ last_input long held ∷ []
inputs_last false [] few some = absurd (some (refl, refl))
inputs_last false (byte ∷ held) few some =
    ap (flat_map inputs_of) (cond-false (length (byte ∷ held) == 0) [] ((byte ∷ held) ∷ []) (ne_eqb (length (byte ∷ held)) 0 (λ none. omega (arith, none))))
    ∙ ap (λ (l : List Input). l ++ []) (cond-false (nat_lt longest_v1_line (length (without_newline (byte ∷ held)))) (map front_piece (full_pieces (without_newline (byte ∷ held))) ++ piece (last_piece (byte ∷ held)) true ∷ []) (line (byte ∷ held) ∷ []) (le-ltb longest_v1_line (length (without_newline (byte ∷ held))) (omega (arith, few, gone_short (byte ∷ held)))))
inputs_last true held few some = append-nil (inputs_left held []) ∙ left_last held [] refl (omega (arith, few)) ∙ ap (λ (l : List ℕ). piece l true ∷ []) (append-nil held)

pub gone_few : (bytes : List ℕ) (most : ℕ) → length bytes ≤ most → length (without_newline bytes) ≤ most
gone_few bytes most few = omega (arith, few, gone_short bytes)

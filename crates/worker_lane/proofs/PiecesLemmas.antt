-- Bytes cut every 65,536 bytes.
use Rattle.std.proofs.Common.{◌≡◌, ℕ, zero, suc, ◌+◌, ◌*◌, ◌/◌, ◌<◌, ◌≤◌, List, [], ◌∷◌, ◌++◌, length, map, take, drop, All, refl, inl, inr, sym, subst, ap, ◌∙◌, arith}
use Rattle.std.specs.List.{flat_map, range_with_len}
use Rattle.std.proofs.lemmas.Bool.{cases_lt}
use Rattle.std.proofs.lemmas.List.{length-take, length-drop, drop-drop, take-append-drop}
use Rattle.std.proofs.lemmas.List.Elements.{All-nil, All-cons, All-take, All-drop}
use Rattle.packet_codec.specs.Grammar.{AreBytes}
use Rattle.worker_lane.specs.Recorded.{pieces_of}

-- n pieces, from the a-th on
abbrev pieces_from : ℕ → ℕ → List ℕ → List (List ℕ)
pieces_from a n bytes = map (λ i. take 65536 (drop (65536 * i) bytes)) (range_with_len a n)

pieces_behind : (n a : ℕ) (bytes : List ℕ) → pieces_from (a + 1) n bytes ≡ pieces_from a n (drop 65536 bytes)
pieces_behind zero a bytes = refl
pieces_behind (suc n) a bytes =
    let one : drop (65536 * (a + 1)) bytes ≡ drop (65536 * a) (drop 65536 bytes) = ap (λ (k : ℕ). drop k bytes) (omega arith) ∙ sym (drop-drop (65536 * a) 65536 bytes) in
    ap (λ (p : List ℕ). take 65536 p ∷ pieces_from ((a + 1) + 1) n bytes) one ∙ ap (λ (l : List (List ℕ)). take 65536 (drop (65536 * a) (drop 65536 bytes)) ∷ l) (pieces_behind n (a + 1) bytes)

pub pieces_first : (bytes : List ℕ) → 0 < length bytes → pieces_of bytes ≡ take 65536 bytes ∷ pieces_of (drop 65536 bytes)
pieces_first bytes some =
    let count : (length bytes + 65535) / 65536 ≡ suc ((length (drop 65536 bytes) + 65535) / 65536) = omega (arith, length-drop 65536 bytes) in
    ap (λ (n : ℕ). pieces_from 0 n bytes) count ∙ ap (λ (l : List (List ℕ)). take 65536 bytes ∷ l) (pieces_behind ((length (drop 65536 bytes) + 65535) / 65536) 0 bytes)

pub no_bytes : (bytes : List ℕ) → length bytes ≡ 0 → bytes ≡ []
no_bytes [] len = refl
no_bytes (byte ∷ bytes) len = absurd (omega arith)

-- what holds of no bytes, and of bytes where it holds of those behind the first piece, holds of all
pub by_pieces : (P : List ℕ → List (List ℕ) → Type 0) → P [] [] → ((bytes : List ℕ) (rest : List (List ℕ)) → 0 < length bytes → P (drop 65536 bytes) rest → P bytes (take 65536 bytes ∷ rest)) → (n : ℕ) (bytes : List ℕ) → length bytes ≤ n → P bytes (pieces_of bytes)
by_pieces P none more zero bytes short = subst (λ (l : List ℕ). P l (pieces_of l)) (sym (no_bytes bytes (omega arith))) none
by_pieces P none more (suc n) bytes short = elim (cases_lt 0 (length bytes)) [
  | inl some ↦ subst (P bytes) (sym (pieces_first bytes some)) (more bytes (pieces_of (drop 65536 bytes)) some (by_pieces P none more n (drop 65536 bytes) (omega (arith, length-drop 65536 bytes))))
  | inr empty ↦ subst (λ (l : List ℕ). P l (pieces_of l)) (sym (no_bytes bytes (omega arith))) none
]

pub pieces_joined : (bytes : List ℕ) → flat_map (λ piece. piece) (pieces_of bytes) ≡ bytes
pieces_joined bytes = by_pieces
    (λ (all : List ℕ) (pieces : List (List ℕ)). flat_map (λ piece. piece) pieces ≡ all)
    refl
    (λ all rest some joined. ap (λ (l : List ℕ). take 65536 all ++ l) joined ∙ take-append-drop 65536 all)
    (length bytes) bytes (omega arith)

-- there are no more pieces than bytes
pub pieces_count : (bytes : List ℕ) → length (pieces_of bytes) ≤ length bytes
pieces_count bytes = by_pieces
    (λ (all : List ℕ) (pieces : List (List ℕ)). length pieces ≤ length all)
    (omega arith)
    (λ all rest some few. omega (arith, length-drop 65536 all))
    (length bytes) bytes (omega arith)

pub record IsPiece (piece : List ℕ) : Type 0 where
  pub are_bytes : AreBytes piece
  pub short : length piece ≤ 65536

pub are_pieces : (bytes : List ℕ) → AreBytes bytes → All IsPiece (pieces_of bytes)
are_pieces bytes = by_pieces
    (λ (all : List ℕ) (pieces : List (List ℕ)). AreBytes all → All IsPiece pieces)
    (λ are. All-nil IsPiece)
    (λ all rest some more are. All-cons IsPiece (take 65536 all) rest
    (record { are_bytes = All-take (λ byte. byte < 256) 65536 all are; short = omega (arith, length-take 65536 all) })
    (more (All-drop (λ byte. byte < 256) 65536 all are)))
    (length bytes) bytes (omega arith)

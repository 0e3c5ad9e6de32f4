-- A search for the next newline.
use Rattle.std.proofs.Common.{◌≡◌, ℕ, suc, ◌+◌, ◌-◌, ◌<◌, ◌≤◌, List, [], ◌∷◌, ◌++◌, Some, None, length, get_or, take, drop, sym, ap, subst, ◌∙◌, arith, append_assoc, eqb-true, take-add}
use Rattle.std.proofs.lemmas.List.{take_rest, take_more, length-drop, length-take-le, get_or-take, get_or-drop}
use Rattle.memchr.specs.Find.{IsFirstByte, is_byte}
use Rattle.v1_bridge.specs.Lines.{HasNoNewline}

plain_by : (bytes : List ℕ) → ((k : ℕ) → k < length bytes → get_or bytes k 0 ≡ 10 → ⊥) → HasNoNewline bytes
plain_by [] none = tt
plain_by (byte ∷ bytes) none = (none 0 (omega arith), plain_by bytes (λ k below. none (suc k) (omega (arith, below))))

module _ (piece : List ℕ) (from : ℕ) (within : from ≤ length piece) where
  rest_size : length (take (length piece - from) (drop from piece)) ≡ length piece - from
  rest_size = ap length (take_rest piece from) ∙ length-drop from piece

  byte_of : (k : ℕ) → get_or (take (length piece - from) (drop from piece)) k 0 ≡ get_or (drop from piece) k 0
  byte_of k = ap (λ l. get_or l k 0) (take_rest piece from)

  pub none_left : IsFirstByte (is_byte 10) (take (length piece - from) (drop from piece)) None → HasNoNewline (take (length piece - from) (drop from piece))
  none_left none = plain_by (take (length piece - from) (drop from piece)) (λ k below is. none k (omega arith) below (ap (is_byte 10) is))

  module _ (count : ℕ) (found : IsFirstByte (is_byte 10) (take (length piece - from) (drop from piece)) (Some count)) where
    pub place_fits : from + count < length piece
    place_fits = omega (arith, found.0.high, rest_size)

    plain_front : HasNoNewline (take count (drop from piece))
    plain_front =
        let size : length (take count (drop from piece)) ≡ count = length-take-le count (drop from piece) (omega (arith, length-drop from piece, place_fits)) in
        plain_by (take count (drop from piece)) (λ k below is.
        let before : k < count = omega (arith, below, size) in
        found.0.before k (omega arith) before (ap (is_byte 10) (byte_of k ∙ sym (get_or-take count (drop from piece) k 0 before) ∙ is)))

    pub line_is_plain : HasNoNewline (take (from + count - from) (drop from piece))
    line_is_plain =
        let same : count ≡ from + count - from = omega arith in
        subst (λ (n : ℕ). HasNoNewline (take n (drop from piece))) same plain_front

    newline_is : get_or piece (from + count) 0 ≡ 10
    newline_is = sym (get_or-drop from piece count 0) ∙ sym (byte_of count) ∙ eqb-true (get_or (take (length piece - from) (drop from piece)) count 0) 10 found.1

    pub line_is_next : take (from + count + 1) piece ≡ take from piece ++ (take (from + count - from) (drop from piece) ++ 10 ∷ [])
    line_is_next =
        let same : count ≡ from + count - from = omega arith in
        take_more piece (from + count) 0 place_fits
        ∙ ap (λ (n : ℕ). take (from + count) piece ++ n ∷ []) newline_is
        ∙ ap (λ (l : List ℕ). l ++ 10 ∷ []) (take-add from count piece)
        ∙ append_assoc (take from piece) (take count (drop from piece)) (10 ∷ [])
        ∙ ap (λ (n : ℕ). take from piece ++ (take n (drop from piece) ++ 10 ∷ [])) same

    -- the bytes up to the newline, and that
    pub ended_is : take (from + count + 1 - from) (drop from piece) ≡ take (from + count - from) (drop from piece) ++ 10 ∷ []
    ended_is =
        let same : count ≡ from + count - from = omega arith in
        let more : from + count + 1 - from ≡ count + 1 = omega arith in
        ap (λ (n : ℕ). take n (drop from piece)) more
        ∙ take_more (drop from piece) count 0 (omega (arith, length-drop from piece, place_fits))
        ∙ ap (λ (n : ℕ). take count (drop from piece) ++ n ∷ []) (get_or-drop from piece count 0 ∙ newline_is)
        ∙ ap (λ (n : ℕ). take n (drop from piece) ++ 10 ∷ []) same

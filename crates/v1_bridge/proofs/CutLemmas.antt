-- Where the first line of some bytes ends.
use Rattle.std.proofs.Common.{◌≡◌, ℕ, zero, suc, ◌+◌, ◌<◌, ◌==◌, Bool, true, false, cond, List, [], ◌∷◌, Some, None, length, get_or, refl, sym, ap, arith}
use Rattle.std.proofs.lemmas.Bool.{false_from_ne_true}
use Rattle.memchr.specs.Find.{is_byte, IsFirstByte}
use Rattle.v1_bridge.specs.Cutting.{line_size}

first_newline : (bytes : List ℕ) (k : ℕ) → k < length bytes → ((j : ℕ) → j < k → is_byte 10 (get_or bytes j 0) ≡ false) → is_byte 10 (get_or bytes k 0) ≡ true → line_size bytes ≡ k + 1
first_newline [] k below none here = absurd (omega (arith, below))
first_newline (byte ∷ bytes) zero below none here = ap (λ b. cond b 1 (suc (line_size bytes))) here
first_newline (byte ∷ bytes) (suc k) below none here =
    let rest : line_size bytes ≡ k + 1 = first_newline bytes k (omega (arith, below)) (λ j less. none (suc j) (omega (arith, less))) here in
    let this : line_size (byte ∷ bytes) ≡ suc (line_size bytes) = ap (λ b. cond b 1 (suc (line_size bytes))) (none 0 (omega arith)) in
    omega (arith, rest, this)

no_newline : (bytes : List ℕ) → ((j : ℕ) → j < length bytes → is_byte 10 (get_or bytes j 0) ≡ false) → line_size bytes ≡ length bytes
no_newline [] none = refl
no_newline (byte ∷ bytes) none =
    let rest : line_size bytes ≡ length bytes = no_newline bytes (λ j less. none (suc j) (omega (arith, less))) in
    let this : line_size (byte ∷ bytes) ≡ suc (line_size bytes) = ap (λ b. cond b 1 (suc (line_size bytes))) (none 0 (omega arith)) in
    omega (arith, rest, this)

pub size_found : (bytes : List ℕ) (k : ℕ) → IsFirstByte (is_byte 10) bytes (Some k) → k + 1 ≡ line_size bytes
size_found bytes k h = sym (first_newline bytes k h.0.high (λ j less. false_from_ne_true (is_byte 10 (get_or bytes j 0)) (h.0.before j (omega arith) less)) h.1)

pub size_all : (bytes : List ℕ) → IsFirstByte (is_byte 10) bytes None → length bytes ≡ line_size bytes
size_all bytes h = sym (no_newline bytes (λ j less. false_from_ne_true (is_byte 10 (get_or bytes j 0)) (h j (omega arith) less)))

pub some_size : (bytes : List ℕ) → 0 < length bytes → 0 < line_size bytes
some_size [] some = absurd (omega (arith, some))
some_size (byte ∷ bytes) some = positive (byte == 10)
  where
    positive : (b : Bool) → 0 < cond b 1 (suc (line_size bytes))
    positive true = omega arith
    positive false = omega arith

-- Where the first directive stands.
use Rattle.std.proofs.Common.{◌≡◌, ℕ, zero, suc, ◌+◌, ◌-◌, ◌<◌, ◌≤◌, Bool, true, false, cond, Option, None, List, [], ◌∷◌, length, drop, get_or, is_some, nat_eq, refl, sym, ◌∙◌, ap, arith, ⊎_elim, true≢false, eqb-true, eq-eqb, length-drop}
use Rattle.std.specs.Prelude.{codes}
use Rattle.std.proofs.lemmas.Bool.{and_parts, cases_Bool, cases_lt}
use Rattle.std.proofs.lemmas.List.{get_or-drop}
use Rattle.memchr.specs.Find.{Passes, is_byte}
use Rattle.sub_number.specs.Lines.{begins}
use Rattle.tap_bridge.specs.Blanks.{begins_blank, trim_start}
use Rattle.tap_bridge.specs.Grammar.{directive_word, directive_at, directive_place}

chosen : {X : Type 0} (b : Bool) (o : Option X) → is_some (cond b o None) ≡ true → b ≡ true
chosen true o is = refl
chosen false o is = absurd (true≢false (sym is))

begins_sign : (bytes : List ℕ) → is_some (directive_at bytes) ≡ true → begins (codes " #") bytes ≡ true
begins_sign bytes is =
    (and_parts (begins (codes " #") bytes) (begins_blank (drop 2 bytes)) (chosen _ (directive_word (trim_start (drop 2 bytes))) is)).0

sign_at : (bytes : List ℕ) → begins (codes " #") bytes ≡ true → (1 < length bytes) × (get_or bytes 1 0 ≡ 35)
sign_at [] is = absurd (true≢false (sym is))
sign_at (a ∷ []) is = absurd (true≢false (sym (and_parts (nat_eq 32 a) false is).1))
sign_at (a ∷ b ∷ bytes) is =
    let second = (and_parts (nat_eq 35 b) true (and_parts (nat_eq 32 a) _ is).1).0 in
    (omega arith, sym (eqb-true 35 b second))

-- a directive has its `#` in the second place
pub sign_of : (bytes : List ℕ) (k : ℕ) → is_some (directive_at (drop k bytes)) ≡ true → (k + 1 < length bytes) × (get_or bytes (k + 1) 0 ≡ 35)
sign_of bytes k is =
    let there = sign_at (drop k bytes) (begins_sign (drop k bytes) is) in
    let within : 1 < length (drop k bytes) = there.0 in
    (omega (arith, within, length-drop k bytes), sym (get_or-drop k bytes 1 0) ∙ there.1)

-- where no directive begins up to a place, and one begins there or the bytes end
pub place_is : (bytes : List ℕ) (n : ℕ) → n ≤ length bytes → ((k : ℕ) → k < n → is_some (directive_at (drop k bytes)) ≡ false)
    → (n < length bytes → is_some (directive_at (drop n bytes)) ≡ true) → n ≡ directive_place bytes
place_is [] n within none here = omega arith
place_is (byte ∷ bytes) zero within none here = sym (ap (λ b. cond b 0 (1 + directive_place bytes)) (here (omega arith)))
place_is (byte ∷ bytes) (suc n) within none here =
    let rest : n ≡ directive_place bytes = place_is bytes n (omega arith) (λ k below. none (suc k) (omega arith)) (λ below. here (omega arith)) in
    let first : directive_place (byte ∷ bytes) ≡ 1 + directive_place bytes = ap (λ b. cond b 0 (1 + directive_place bytes)) (none 0 (omega arith)) in
    omega (arith, rest, first)

-- between two places with no `#` from the one up to the other no directive has its `#`
pub none_until : (bytes : List ℕ) (from place : ℕ) → ((k : ℕ) → k + 1 < from → is_some (directive_at (drop k bytes)) ≡ false)
    → ((k : ℕ) → from ≤ k → k < place → k < length bytes → get_or bytes k 0 ≡ 35 → ⊥)
    → (k : ℕ) → k + 1 < place → is_some (directive_at (drop k bytes)) ≡ false
none_until bytes from place before between k below =
    ⊎_elim (λ (early : k + 1 < from). before k early)
    (λ (late : from ≤ k + 1).
    ⊎_elim (λ (yes : is_some (directive_at (drop k bytes)) ≡ true).
    let sign = sign_of bytes k yes in
    absurd (between (k + 1) late below sign.0 sign.1))
    (λ no. no)
    (cases_Bool (is_some (directive_at (drop k bytes)))))
    (cases_lt (k + 1) from)

-- so many bytes behind a place are no `#`
pub no_sign : (bytes hay : List ℕ) (from count : ℕ) → hay ≡ drop from bytes → ((j : ℕ) → 0 ≤ j → j < count → ¬ (Passes (is_byte 35) hay j))
    → (k : ℕ) → from ≤ k → k < from + count → get_or bytes k 0 ≡ 35 → ⊥
no_sign bytes hay from count is none k low high sign =
    let same : from + (k - from) ≡ k = omega arith in
    let here : get_or hay (k - from) 0 ≡ 35 = ap (λ l. get_or l (k - from) 0) is ∙ get_or-drop from bytes (k - from) 0 ∙ ap (λ n. get_or bytes n 0) same ∙ sign in
    none (k - from) (omega arith) (omega arith) (eq-eqb (get_or hay (k - from) 0) 35 here)

-- The character that foreign bytes leave open.
use Rattle.std.proofs.Common.{◌≡◌, ℕ, ◌+◌, ◌-◌, ◌/◌, ◌%◌, ◌≤◌, ◌<◌, ◌⊎◌, Bool, true, false, List, [], ◌∷◌, ◌++◌, length, drop, get_or, zero, suc, refl, sym, subst, ◌∙◌, inl, inr, arith}
use Rattle.std.specs.Prelude.{cond, nat_lt, ◌&&◌}
use Rattle.std.specs.Str.{IsUtf8, encode_utf8_all, all_scalars}
use Rattle.std.specs.Char.{encode_utf8, IsScalar}
use Rattle.std.proofs.lemmas.Bool.{cond-true, cond-false, lt-ltb, le-ltb, cases_lt}
use Rattle.std.proofs.Math.Utf8.{scalar, scalar_cases}
use Rattle.packet_codec.specs.Packet.{signature}
use Rattle.std.proofs.lemmas.List.{at_drop_more}
use Rattle.stream_end.specs.Character.{missing_after_byte, missing_after_bytes}

-- ---- a byte

after_ascii : (missing byte : ℕ) → byte < 128 → missing_after_byte missing byte ≡ 0
unfolding missing_after_byte
after_ascii missing byte low = cond-true _ _ _ (lt-ltb byte 128 low)

after_next : (missing byte : ℕ) → 128 ≤ byte → byte < 192 → missing_after_byte missing byte ≡ missing - 1
unfolding missing_after_byte
after_next missing byte low high = cond-false _ _ _ (le-ltb byte 128 low) ∙ cond-true _ _ _ (lt-ltb byte 192 high)

-- a byte above 193
after_high : (missing byte : ℕ) → 194 ≤ byte → missing_after_byte missing byte ≡ cond (nat_lt byte 224) 1 (cond (nat_lt byte 240) 2 (cond (nat_lt byte 245) 3 0))
unfolding missing_after_byte
after_high missing byte low =
    cond-false _ _ _ (le-ltb byte 128 (omega arith)) ∙ cond-false _ _ _ (le-ltb byte 192 (omega arith)) ∙ cond-false _ _ _ (le-ltb byte 194 low)

after_two : (missing byte : ℕ) → 194 ≤ byte → byte < 224 → missing_after_byte missing byte ≡ 1
after_two missing byte low high = after_high missing byte low ∙ cond-true _ _ _ (lt-ltb byte 224 high)

after_three : (missing byte : ℕ) → 224 ≤ byte → byte < 240 → missing_after_byte missing byte ≡ 2
after_three missing byte low high = after_high missing byte (omega arith) ∙ cond-false _ _ _ (le-ltb byte 224 low) ∙ cond-true _ _ _ (lt-ltb byte 240 high)

after_four : (missing byte : ℕ) → 240 ≤ byte → byte < 245 → missing_after_byte missing byte ≡ 3
after_four missing byte low high =
    after_high missing byte (omega arith) ∙ cond-false _ _ _ (le-ltb byte 224 (omega arith)) ∙ cond-false _ _ _ (le-ltb byte 240 low) ∙ cond-true _ _ _ (lt-ltb byte 245 high)

-- a byte that goes on with no character leaves open what it leaves open behind any
after_begin : (a b byte : ℕ) → byte < 128 ⊎ 192 ≤ byte → missing_after_byte a byte ≡ missing_after_byte b byte
unfolding missing_after_byte
after_begin a b byte (inl low) = cond-true _ _ _ (lt-ltb byte 128 low) ∙ sym (cond-true _ _ _ (lt-ltb byte 128 low))
after_begin a b byte (inr high) =
    cond-false _ _ _ (le-ltb byte 128 (omega arith)) ∙ cond-false _ _ _ (le-ltb byte 192 high)
    ∙ sym (cond-false _ _ _ (le-ltb byte 128 (omega arith)) ∙ cond-false _ _ _ (le-ltb byte 192 high))

begin_alike : (a b place : ℕ) (bytes : List ℕ) → place < length bytes → get_or bytes place 0 < 128 ⊎ 192 ≤ get_or bytes place 0 → missing_after_bytes a (drop place bytes) ≡ missing_after_bytes b (drop place bytes)
begin_alike a b place bytes within begins =
    at_drop_more (missing_after_bytes a) bytes place 0 within
    ∙ subst (λ missing. missing_after_bytes (missing_after_byte a (get_or bytes place 0)) (drop (place + 1) bytes) ≡ missing_after_bytes missing (drop (place + 1) bytes)) (after_begin a b (get_or bytes place 0) begins) refl
    ∙ sym (at_drop_more (missing_after_bytes b) bytes place 0 within)

-- so what is open behind bytes rests on none in front of such a byte
pub alike_from : (missing place : ℕ) (bytes : List ℕ) → place < length bytes → get_or bytes place 0 < 128 ⊎ 192 ≤ get_or bytes place 0 → missing_after_bytes missing bytes ≡ missing_after_bytes missing (drop place bytes)
alike_from missing place [] within begins = absurd (omega (arith, within))
alike_from missing zero (byte ∷ bytes) within begins = refl
alike_from missing (suc place) (byte ∷ bytes) within begins =
    alike_from (missing_after_byte missing byte) place bytes (omega (arith, within)) begins
    ∙ begin_alike (missing_after_byte missing byte) missing place bytes (omega (arith, within)) begins

-- ---- a text

-- each byte that is the signature goes on with a character, and none is open at the end
abbrev pub IsWithin : ℕ → List ℕ → Type 0
IsWithin missing [] = missing ≡ 0
IsWithin missing (byte ∷ bytes) = (byte ≡ signature → 0 < missing) × IsWithin (missing_after_byte missing byte) bytes

within_then : (missing : ℕ) (bytes others : List ℕ) → IsWithin missing bytes → IsWithin 0 others → IsWithin missing (bytes ++ others)
within_then missing [] others ends then = rw ends then
within_then missing (byte ∷ bytes) others (goes_on, within) then = (goes_on, within_then (missing_after_byte missing byte) bytes others within then)

-- a byte that begins a character, and one that goes on with it
lead_within : (byte missing : ℕ) (bytes : List ℕ) → 194 ≤ byte → missing_after_byte 0 byte ≡ missing → IsWithin missing bytes → IsWithin 0 (byte ∷ bytes)
lead_within byte missing bytes high is within = (λ same. absurd (omega (arith, same)), rw is within)

next_within : (missing bits : ℕ) (bytes : List ℕ) → 0 < missing → IsWithin (missing - 1) bytes → IsWithin missing ((128 + bits % 64) ∷ bytes)
next_within missing bits bytes some within = (λ same. some, rw (after_next missing (128 + bits % 64) (omega arith) (omega arith)) within)

encode_one : (c : ℕ) → c < 128 → encode_utf8 c ≡ c ∷ []
unfolding encode_utf8
encode_one c low = cond-true _ _ _ (lt-ltb c 128 low)

encode_two : (c : ℕ) → 128 ≤ c → c < 2048 → encode_utf8 c ≡ (192 + c / 64) ∷ (128 + c % 64) ∷ []
unfolding encode_utf8
encode_two c high low = cond-false _ _ _ (le-ltb c 128 high) ∙ cond-true _ _ _ (lt-ltb c 2048 low)

encode_three : (c : ℕ) → 2048 ≤ c → c < 65536 → encode_utf8 c ≡ (224 + c / 4096) ∷ (128 + c / 64 % 64) ∷ (128 + c % 64) ∷ []
unfolding encode_utf8
encode_three c high low = cond-false _ _ _ (le-ltb c 128 (omega arith)) ∙ cond-false _ _ _ (le-ltb c 2048 high) ∙ cond-true _ _ _ (lt-ltb c 65536 low)

encode_four : (c : ℕ) → 65536 ≤ c → encode_utf8 c ≡ (240 + c / 262144) ∷ (128 + c / 4096 % 64) ∷ (128 + c / 64 % 64) ∷ (128 + c % 64) ∷ []
unfolding encode_utf8
encode_four c high = cond-false _ _ _ (le-ltb c 128 (omega arith)) ∙ cond-false _ _ _ (le-ltb c 2048 (omega arith)) ∙ cond-false _ _ _ (le-ltb c 65536 high)

-- what follows the byte that begins a character of two, three or four bytes
last_within : (c : ℕ) → IsWithin 1 ((128 + c % 64) ∷ [])
last_within c = next_within 1 c [] (omega arith) refl

two_within : (c : ℕ) → IsWithin 2 ((128 + c / 64 % 64) ∷ (128 + c % 64) ∷ [])
two_within c = next_within 2 (c / 64) ((128 + c % 64) ∷ []) (omega arith) (last_within c)

three_within : (c : ℕ) → IsWithin 3 ((128 + c / 4096 % 64) ∷ (128 + c / 64 % 64) ∷ (128 + c % 64) ∷ [])
three_within c = next_within 3 (c / 4096) ((128 + c / 64 % 64) ∷ (128 + c % 64) ∷ []) (omega arith) (two_within c)

one_within : (c : ℕ) → c < 1114112 → IsWithin 0 (encode_utf8 c)
one_within c small = elim (cases_lt c 128) [
  | inl low ↦ subst (IsWithin 0) (sym (encode_one c low)) (λ same. absurd (omega (arith, same)), after_ascii 0 c low)
  | inr high ↦ elim (cases_lt c 2048) [
    | inl low ↦ subst (IsWithin 0) (sym (encode_two c high low)) (lead_within (192 + c / 64) 1 ((128 + c % 64) ∷ []) (omega arith) (after_two 0 (192 + c / 64) (omega arith) (omega arith)) (last_within c))
    | inr high' ↦ elim (cases_lt c 65536) [
      | inl low ↦ subst (IsWithin 0) (sym (encode_three c high' low)) (lead_within (224 + c / 4096) 2 ((128 + c / 64 % 64) ∷ (128 + c % 64) ∷ []) (omega arith) (after_three 0 (224 + c / 4096) (omega arith) (omega arith)) (two_within c))
      | inr high'' ↦ subst (IsWithin 0) (sym (encode_four c high'')) (lead_within (240 + c / 262144) 3 ((128 + c / 4096 % 64) ∷ (128 + c / 64 % 64) ∷ (128 + c % 64) ∷ []) (omega arith) (after_four 0 (240 + c / 262144) (omega arith) (omega arith)) (three_within c))
    ]
  ]
]

scalar_small : (c : ℕ) → IsScalar c → c < 1114112
scalar_small c is = elim (scalar_cases c is) [
  | inl low ↦ omega (arith, low)
  | inr high ↦ high.1
]

pub both_parts : (a b : Bool) → (a && b) ≡ true → (a ≡ true) × (b ≡ true)
both_parts true b is = (refl, is)
both_parts false b is = absurd cc

all_within : (cs : List ℕ) → all_scalars cs ≡ true → IsWithin 0 (encode_utf8_all cs)
all_within [] are = refl
all_within (c ∷ cs) are =
    let both = both_parts (scalar c) (all_scalars cs) are in
    within_then 0 (encode_utf8 c) (encode_utf8_all cs) (one_within c (scalar_small c both.0)) (all_within cs both.1)

-- so it is of all UTF-8
pub text_within : (text : List ℕ) → IsUtf8 text → IsWithin 0 text
text_within text (cs, both) = subst (IsWithin 0) both.1 (all_within cs both.0)

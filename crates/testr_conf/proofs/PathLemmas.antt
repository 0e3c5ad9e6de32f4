-- A path that no shell reads is a text.
use Rattle.std.proofs.Common.{◌≡◌, ◌<◌, ℕ, Bool, true, not, ◌||◌, ◌==◌, length, nat_le, List, [], ◌∷◌, arith, ⊎_elim}
use Rattle.std.specs.Char.{is_ascii_alphanumeric}
use Rattle.std.specs.Int.{is_in_range}
use Rattle.std.specs.List.{list_all}
use Rattle.std.proofs.lemmas.Bool.{and_parts, or_cases, eqb-true, leb-true}
use Rattle.sub_number.specs.Texts.{IsText}
use Rattle.testr_conf.specs.Jobs.{is_plain_byte, is_plain_path}
use Rattle.testr_conf.proofs.TextLemmas.{text_append, text_nil, text_one}

-- ASCII without NUL
record IsSmall (byte : ℕ) : Type 0 where
  low : 0 < byte
  high : byte < 128

in_range : (low high byte : ℕ) → 0 < low → high < 128 → is_in_range low high byte ≡ true → IsSmall byte
in_range low high byte some few is =
    let both = and_parts (nat_le low byte) (nat_le byte high) is in
    record { low = omega (arith, some, leb-true low byte both.0); high = omega (arith, few, leb-true byte high both.1) }

one_byte : (byte one : ℕ) → 0 < one → one < 128 → (byte == one) ≡ true → IsSmall byte
one_byte byte one some few is = record { low = omega (arith, some, eqb-true byte one is); high = omega (arith, few, eqb-true byte one is) }

letter : (byte : ℕ) → is_ascii_alphanumeric byte ≡ true → IsSmall byte
letter byte is =
    ⊎_elim
    (λ first. ⊎_elim (in_range 48 57 byte (omega arith) (omega arith)) (in_range 65 90 byte (omega arith) (omega arith)) (or_cases (is_in_range 48 57 byte) (is_in_range 65 90 byte) first))
    (in_range 97 122 byte (omega arith) (omega arith))
    (or_cases (is_in_range 48 57 byte || is_in_range 65 90 byte) (is_in_range 97 122 byte) is)

-- one sign, or one of the others
last_sign : (byte one : ℕ) (others : Bool) → 0 < one → one < 128 → (others || (byte == one)) ≡ true → (others ≡ true → IsSmall byte) → IsSmall byte
last_sign byte one others some few is rest = ⊎_elim rest (one_byte byte one some few) (or_cases others (byte == one) is)

sign : (byte : ℕ) → (byte == 47 || byte == 46 || byte == 95 || byte == 45 || byte == 43 || byte == 64 || byte == 37 || byte == 44 || byte == 58 || byte == 61) ≡ true → IsSmall byte
sign byte is =
    last_sign byte 61 (byte == 47 || byte == 46 || byte == 95 || byte == 45 || byte == 43 || byte == 64 || byte == 37 || byte == 44 || byte == 58) (omega arith) (omega arith) is (λ is.
    last_sign byte 58 (byte == 47 || byte == 46 || byte == 95 || byte == 45 || byte == 43 || byte == 64 || byte == 37 || byte == 44) (omega arith) (omega arith) is (λ is.
    last_sign byte 44 (byte == 47 || byte == 46 || byte == 95 || byte == 45 || byte == 43 || byte == 64 || byte == 37) (omega arith) (omega arith) is (λ is.
    last_sign byte 37 (byte == 47 || byte == 46 || byte == 95 || byte == 45 || byte == 43 || byte == 64) (omega arith) (omega arith) is (λ is.
    last_sign byte 64 (byte == 47 || byte == 46 || byte == 95 || byte == 45 || byte == 43) (omega arith) (omega arith) is (λ is.
    last_sign byte 43 (byte == 47 || byte == 46 || byte == 95 || byte == 45) (omega arith) (omega arith) is (λ is.
    last_sign byte 45 (byte == 47 || byte == 46 || byte == 95) (omega arith) (omega arith) is (λ is.
    last_sign byte 95 (byte == 47 || byte == 46) (omega arith) (omega arith) is (λ is.
    last_sign byte 46 (byte == 47) (omega arith) (omega arith) is (λ is.
    one_byte byte 47 (omega arith) (omega arith) is)))))))))

small : (byte : ℕ) → is_plain_byte byte ≡ true → IsSmall byte
small byte is =
    ⊎_elim (letter byte) (sign byte)
    (or_cases (is_ascii_alphanumeric byte)
    (byte == 47 || byte == 46 || byte == 95 || byte == 45 || byte == 43 || byte == 64 || byte == 37 || byte == 44 || byte == 58 || byte == 61) is)

all_text : (bytes : List ℕ) → list_all is_plain_byte bytes ≡ true → IsText bytes
all_text [] all = text_nil
all_text (byte ∷ bytes) all =
    let both = and_parts (is_plain_byte byte) (list_all is_plain_byte bytes) all in
    let is : IsSmall byte = small byte both.0 in
    text_append (byte ∷ []) bytes (text_one byte is.high is.low) (all_text bytes both.1)

pub plain_text : (path : List ℕ) → is_plain_path path ≡ true → IsText path
plain_text path is = all_text path (and_parts (not (length path == 0)) (list_all is_plain_byte path) is).1

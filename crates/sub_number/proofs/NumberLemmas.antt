-- What the first byte of a spelling says.
use Rattle.std.proofs.Common.{◌≡◌, ℕ, ◌+◌, ◌/◌, ◌≤◌, List, [], ◌∷◌, length, take, get_or, Fits, w8, inl, inr, sym, ◌∙◌, arith}
use Rattle.std.proofs.lemmas.List.{length-take, length-take-le, get_or-take, get_or_past}
use Rattle.std.proofs.lemmas.Bool.{cases_lt}
use Rattle.sub_number.specs.Numbers.{SpellsNumber, BeginsWithNumber, BeginsWithNoNumber}

-- each of them is a byte
abbrev pub AreBytes : List ℕ → Type 0
AreBytes bytes = (i : ℕ) → Fits w8 (get_or bytes i 0)

-- so is each of a front
pub are_bytes_take : (n : ℕ) (bytes : List ℕ) → AreBytes bytes → AreBytes (take n bytes)
are_bytes_take n bytes are i = elim (cases_lt i n) [
  | inl below ↦ rw (get_or-take n bytes i 0 below) (are i)
  | inr past ↦ rw (get_or_past (take n bytes) i 0 (omega (arith, length-take n bytes))) (omega arith)
]

-- the top two bits of the first byte are the length less one
pub length_from_first : (bytes : List ℕ) (value : ℕ) → AreBytes bytes → SpellsNumber bytes value → length bytes ≡ get_or bytes 0 0 / 64 + 1
length_from_first [] value are s = absurd (omega (arith, s.some))
length_from_first (a ∷ []) value are s = omega (arith, s.fits, s.digits)
length_from_first (a ∷ b ∷ []) value are s = omega (arith, s.fits, s.digits, are 1)
length_from_first (a ∷ b ∷ c ∷ []) value are s = omega (arith, s.fits, s.digits, are 1, are 2)
length_from_first (a ∷ b ∷ c ∷ d ∷ []) value are s = omega (arith, s.fits, s.digits, are 1, are 2, are 3)
length_from_first (a ∷ b ∷ c ∷ d ∷ e ∷ rest) value are s = absurd (omega (arith, s.few))

-- where the first byte asks for more bytes than there may be, no number is spelled
pub no_number : (bytes : List ℕ) (widest : ℕ) → AreBytes bytes → (1 ≤ length bytes → get_or bytes 0 0 / 64 + 1 ≤ widest → get_or bytes 0 0 / 64 + 1 ≤ length bytes → ⊥) → BeginsWithNoNumber bytes widest
no_number bytes widest are never value size begins =
    let whole : length (take size bytes) ≡ size = length-take-le size bytes begins.in_range in
    let some : 1 ≤ size = omega (arith, begins.spells.some) in
    let same_first : get_or (take size bytes) 0 0 ≡ get_or bytes 0 0 = get_or-take size bytes 0 0 (omega arith) in
    let first : length (take size bytes) ≡ get_or (take size bytes) 0 0 / 64 + 1 = length_from_first (take size bytes) value (are_bytes_take size bytes are) begins.spells in
    let top : get_or bytes 0 0 / 64 + 1 ≡ size = sym (rw (whole, same_first) at first) in
    never (omega (arith, begins.in_range)) (omega (arith, begins.narrow)) (omega (arith, begins.in_range))

-- the first byte settles where the number ends
pub size_from_first : (bytes : List ℕ) (widest value size : ℕ) → AreBytes bytes → BeginsWithNumber bytes widest value size → size ≡ get_or bytes 0 0 / 64 + 1
size_from_first bytes widest value size are begins =
    let whole : length (take size bytes) ≡ size = length-take-le size bytes begins.in_range in
    let some : 1 ≤ size = omega (arith, begins.spells.some) in
    let same_first : get_or (take size bytes) 0 0 ≡ get_or bytes 0 0 = get_or-take size bytes 0 0 (omega arith) in
    let first : length (take size bytes) ≡ get_or (take size bytes) 0 0 / 64 + 1 = length_from_first (take size bytes) value (are_bytes_take size bytes are) begins.spells in
    rw (whole, same_first) at first

-- so bytes begin with one number at most
pub same_number : (bytes : List ℕ) (widest value size value' size' : ℕ) → AreBytes bytes → BeginsWithNumber bytes widest value size → BeginsWithNumber bytes widest value' size' → (value ≡ value') × (size ≡ size')
same_number bytes widest value size value' size' are begins begins' =
    let same_size : size ≡ size' = size_from_first bytes widest value size are begins ∙ sym (size_from_first bytes widest value' size' are begins') in
    let spells : SpellsNumber (take size bytes) value' = rw same_size begins'.spells in
    (omega (arith, begins.spells.digits, spells.digits), same_size)

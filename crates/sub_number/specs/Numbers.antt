-- The number encoding of the Subunit README, version 2: one to four bytes, the greatest first.
use Rattle.std.specs.Prelude.{◌≡◌, ℕ, ◌+◌, ◌-◌, ◌*◌, ◌^◌, ◌<◌, ◌≤◌, min, List, length, take, drop, nat_lt, if◌then◌else◌}
use Rattle.std.specs.Int.{w32, to_be_bytes}
use Rattle.std.specs.Int.Digits.{number_from_digits}

-- A spelling of w bytes has room for values below 2 ^ (8w - 2), and its top two bits say w - 1.
pub record SpellsNumber (bytes : List ℕ) (value : ℕ) : Type 0 where
  pub some : 1 ≤ length bytes
  pub few : length bytes ≤ 4
  pub fits : value < 2 ^ (8 * length bytes - 2)
  pub digits : number_from_digits 256 bytes ≡ (length bytes - 1) * 2 ^ (8 * length bytes - 2) + value

-- the first `size` of the bytes spell the value, and they are at most `widest`
pub record BeginsWithNumber (bytes : List ℕ) (widest value size : ℕ) : Type 0 where
  pub in_range : size ≤ length bytes
  pub narrow : size ≤ widest
  pub spells : SpellsNumber (take size bytes) value

-- no prefix of at most `widest` bytes spells a number
abbrev pub BeginsWithNoNumber : List ℕ → ℕ → Type 0
BeginsWithNoNumber bytes widest = (value size : ℕ) → BeginsWithNumber bytes widest value size → ⊥

-- the least number of bytes that has room for the value, which is below 2 ^ 30
abbrev pub shortest_size : ℕ → ℕ
shortest_size value =
    if nat_lt value (2 ^ 6) then 1 else (
    if nat_lt value (2 ^ 14) then 2 else (
    if nat_lt value (2 ^ 22) then 3 else 4
    )
    )

-- the spelling of that many bytes
abbrev pub shortest_number : ℕ → List ℕ
shortest_number value = let size = shortest_size value in drop (4 - size) (to_be_bytes w32 ((size - 1) * 2 ^ (8 * size - 2) + value))

-- the bytes spell the value, and no spelling of it has fewer bytes
pub record IsShortest (bytes : List ℕ) (value : ℕ) : Type 0 where
  pub spells : SpellsNumber bytes value
  pub least : (others : List ℕ) → SpellsNumber others value → length bytes ≤ length others

-- one more, up to the last value that a counter of 64 bits has
abbrev pub one_more : ℕ → ℕ
one_more n = min (n + 1) (2 ^ 64 - 1)

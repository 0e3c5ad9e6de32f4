-- Registers kept along some bytes.
use Rattle.std.specs.Prelude.{◌≡◌, ℕ, ◌*◌, ◌≤◌, List, ◌++◌, length, take, get_or}
use Rattle.sub_number.specs.Checksum.{crc_register}

-- so many bytes stand from one kept register to the next
abbrev pub stride : ℕ
stride = 64

-- the most bytes that there is room for
abbrev pub prefix_room : ℕ
prefix_room = 5373952

-- what is kept: the number of bytes, the register behind them, and the register at every place that is a multiple of the stride
pub record KeptRegisters : Type 0 where
  pub count : ℕ
  pub last : ℕ
  pub marks : List ℕ

-- The registers are those along the bytes, where `before` came before them.
pub record AreAlong (prefixes : KeptRegisters) (before : List ℕ) (bytes : List ℕ) : Type 0 where
  pub in_room : length bytes ≤ prefix_room
  pub count : prefixes.count ≡ length bytes
  pub last : prefixes.last ≡ crc_register (before ++ bytes)
  pub marks : (i : ℕ) → stride * i ≤ length bytes → get_or prefixes.marks i 0 ≡ crc_register (before ++ take (stride * i) bytes)

-- so they are, whatever came before
abbrev pub HasPrefixes : KeptRegisters → List ℕ → Type 0
HasPrefixes prefixes bytes = (before : List ℕ) × AreAlong prefixes before bytes

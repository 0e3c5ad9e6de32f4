-- zlib's CRC-32, bit by bit: the polynomial EDB88320, the lowest bit first.
use Rattle.std.specs.Prelude.{ℕ, zero, suc, ◌-◌, ◌/◌, ◌%◌, ◌^◌, ◌==◌, List, fold, bit_xor, if◌then◌else◌}

-- the value is shifted right by one, and a 1 that is shifted out mixes the polynomial in
abbrev pub shifted : ℕ → ℕ
shifted value = if value % 2 == 1 then bit_xor (value / 2) 0xEDB88320 else value / 2

-- eight shifts
unfoldable pub shifted_8 : ℕ → ℕ
shifted_8 value = shifted (shifted (shifted (shifted (shifted (shifted (shifted (shifted value)))))))

-- so many times eight shifts
abbrev pub shifted_times : ℕ → ℕ → ℕ
shifted_times zero value = value
shifted_times (suc times) value = shifted_times times (shifted_8 value)

-- a byte goes into the low eight bits, which are then shifted out
abbrev pub crc_step : ℕ → ℕ → ℕ
crc_step value byte = shifted_8 (bit_xor value byte)

-- the register after the bytes, where it began as all ones
abbrev pub crc_register : List ℕ → ℕ
crc_register bytes = fold crc_step 0xFFFFFFFF bytes

-- all bits inverted
abbrev pub inverted : ℕ → ℕ
inverted value = 2 ^ 32 - 1 - value

-- at the end all bits are inverted
abbrev pub crc32 : List ℕ → ℕ
crc32 bytes = inverted (crc_register bytes)

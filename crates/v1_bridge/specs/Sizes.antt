-- The size of a chunk (docs/FORMATS.md, "Version 1").
use Rattle.std.specs.Prelude.{ℕ, ◌&&◌, ◌||◌, Bool, List, [], ◌∷◌, length, nat_eq, nat_le, if◌then◌else◌}
use Rattle.std.specs.Char.{is_ascii_hexdigit}
use Rattle.std.specs.List.{list_all, ends_with}
use Rattle.std.specs.Str.Parse.{digits_value}
use Rattle.sub_number.specs.Lines.{without_return}
use Rattle.v1_bridge.specs.declared.chunk_size.Extent.{Extent}
use Rattle.v1_bridge.specs.declared.chunk_size.Extent.TheVariants as extent
use Rattle.v1_bridge.specs.declared.chunk_size.Size.{Size}
use Rattle.v1_bridge.specs.declared.chunk_size.Size.TheVariants as size
use Rattle.v1_bridge.specs.Lines.{content}

-- at most 8 hexadecimal digits, of either case
abbrev pub are_few_digits : List ℕ → Bool
are_few_digits bytes = nat_le (length bytes) 8 && list_all is_ascii_hexdigit bytes

-- the same, and at least one
abbrev pub is_size : List ℕ → Bool
is_size bytes = are_few_digits bytes && nat_le 1 (length bytes)

-- a size, where more bytes of the line may follow: digits alone, or a size and a carriage return
abbrev pub may_be_size : List ℕ → Bool
may_be_size bytes = are_few_digits bytes || (ends_with nat_eq bytes (13 ∷ []) && is_size (without_return bytes))

-- the size that a whole line of these digits tells; no digits, more than 8, or other bytes are none
abbrev pub size_with : List ℕ → Size
size_with digits = if is_size digits then size.Told (digits_value 16 digits) else size.Bad

-- the size that a run of bytes of this extent tells
abbrev pub size_in : Extent → List ℕ → Size
size_in extent.Whole bytes = size_with (content bytes)
size_in extent.Piece bytes = if may_be_size bytes then size.Open else size.Bad
size_in extent.Last bytes = size_with (content bytes)

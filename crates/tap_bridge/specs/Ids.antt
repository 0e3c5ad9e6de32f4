-- The ids of tests (docs/FORMATS.md, "TAP").
use Rattle.std.specs.Prelude.{ℕ, ◌==◌, List, [], ◌++◌, map, length, codes, if◌then◌else◌}
use Rattle.std.specs.Str.{encode_utf8_all}
use Rattle.std.specs.Fmt.{decimal}
use Rattle.bstr.specs.Utf8.{replacement, lossy_chars}

-- U+FFFD in place of NUL
abbrev pub without_nul : ℕ → ℕ
without_nul char = if char == 0 then replacement else char

-- the bytes as a text: U+FFFD stands for each piece that is no UTF-8, and for each NUL
abbrev pub id_from : List ℕ → List ℕ
id_from bytes = encode_utf8_all (map without_nul (lossy_chars bytes))

-- `test`, the number, and the description where there is one
abbrev pub described : List ℕ → List ℕ
described description = if length description == 0 then [] else codes " " ++ description

-- the id of a test: its number and its description
abbrev pub test_name : ℕ → List ℕ → List ℕ
test_name number description = codes "test " ++ decimal number ++ described description

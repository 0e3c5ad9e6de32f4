-- The characters of a document (docs/FORMATS.md, "JUnit XML"; Extensible Markup Language 1.0, 2.2 and 2.4).
use Rattle.std.specs.Prelude.{ℕ, Bool, ◌==◌, ◌&&◌, ◌||◌, nat_le, Option, Some, None, List, map, codes, encode_utf8, if◌then◌else◌}
use Rattle.std.specs.List.{flat_map}
use Rattle.std.specs.Option.{option_or, unwrap_or}
use Rattle.std.specs.Str.{encode_utf8_all}
use Rattle.bstr.specs.Utf8.{replacement, lossy_chars}
use Rattle.junit_xml.specs.declared.characters.Place.{Place}
use Rattle.junit_xml.specs.declared.characters.Place.TheVariants as place

-- a character that XML 1.0 allows
abbrev pub is_xml_char : ℕ → Bool
is_xml_char char =
    char == 9 || (char == 10 || (char == 13
    || (nat_le 0x20 char && nat_le char 0xD7FF
    || (nat_le 0xE000 char && nat_le char 0xFFFD
    || nat_le 0x10000 char && nat_le char 0x10FFFF))))

-- What is shown of bytes.

-- U+FFFD in place of a character that XML 1.0 does not allow
abbrev pub shown_char : ℕ → ℕ
shown_char char = if is_xml_char char then char else replacement

-- the characters of bytes: U+FFFD stands for each longest piece that is no UTF-8, and for each that is not allowed
abbrev pub shown_chars : List ℕ → List ℕ
shown_chars bytes = map shown_char (lossy_chars bytes)

-- the same as UTF-8
abbrev pub shown_utf8 : List ℕ → List ℕ
shown_utf8 bytes = encode_utf8_all (shown_chars bytes)

-- How it is written.

-- what stands for a sign of the markup
abbrev pub markup_escape : ℕ → Option (List ℕ)
markup_escape char =
    if char == 38 then Some (codes "&amp;")
    else (if char == 60 then Some (codes "&lt;")
    else (if char == 62 then Some (codes "&gt;")
    else (if char == 34 then Some (codes "&quot;")
    else None)))

-- what stands for a tab, a newline and a carriage return in a value, which would be read as spaces there
abbrev pub break_escape : Place → ℕ → Option (List ℕ)
break_escape place.Text char = None
break_escape place.Value char =
    if char == 9 then Some (codes "&#9;")
    else (if char == 10 then Some (codes "&#10;")
    else (if char == 13 then Some (codes "&#13;")
    else None))

-- U+FFFD, where XML 1.0 does not allow the character
abbrev pub refused_escape : ℕ → Option (List ℕ)
refused_escape char = if is_xml_char char then None else Some (encode_utf8 replacement)

-- what stands for a character that is not written as it is
abbrev pub escape : Place → ℕ → Option (List ℕ)
escape where_it_stands char = option_or (markup_escape char) (option_or (break_escape where_it_stands char) (refused_escape char))

-- a character as it is written
abbrev pub written_char : Place → ℕ → List ℕ
written_char where_it_stands char = unwrap_or (escape where_it_stands char) (encode_utf8 char)

-- bytes as they are written
abbrev pub written : Place → List ℕ → List ℕ
written where_it_stands bytes = flat_map (written_char where_it_stands) (lossy_chars bytes)

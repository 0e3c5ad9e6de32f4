-- The values that the keys of stestr may have (docs/FORMATS.md, "`.stestr.conf` and `pyproject.toml`").
use Rattle.std.specs.Prelude.{ℕ, Bool, false, not, ◌&&◌, ◌||◌, Option, Some, None, List, map, codes}
use Rattle.std.specs.Char.{to_ascii_lowercase}
use Rattle.std.specs.Str.{bytes_eq}
use Rattle.sub_number.specs.Lines.{has_bytes}
use Rattle.sub_number.specs.Quotes.{is_path}
use Rattle.testr_conf.specs.declared.name.Name.{Name}
use Rattle.testr_conf.specs.declared.name.Name.TheVariants.{TestPath, TopDir, ParallelClass}

-- a word in small letters that says yes
abbrev pub is_small_yes : List ℕ → Bool
is_small_yes word = bytes_eq word (codes "1") || (bytes_eq word (codes "yes") || (bytes_eq word (codes "true") || bytes_eq word (codes "on")))

-- a word in small letters that says no
abbrev pub is_small_no : List ℕ → Bool
is_small_no word = bytes_eq word (codes "0") || (bytes_eq word (codes "no") || (bytes_eq word (codes "false") || bytes_eq word (codes "off")))

-- a word says yes in any case of its letters
abbrev pub is_yes : List ℕ → Bool
is_yes word = is_small_yes (map to_ascii_lowercase word)

-- and no
abbrev pub is_no : List ℕ → Bool
is_no word = is_small_no (map to_ascii_lowercase word)

-- whether a value that may not be there says yes
abbrev pub says_yes : Option (List ℕ) → Bool
says_yes None = false
says_yes (Some word) = is_yes word

-- the key of this name, where it is used, may not have the value
abbrev pub is_unfit : Option Name → List ℕ → Bool
is_unfit (Some TestPath) value = not (is_path value)
is_unfit (Some TopDir) value = not (is_path value)
is_unfit (Some ParallelClass) value = has_bytes value && not (is_yes value || is_no value)
is_unfit name value = false

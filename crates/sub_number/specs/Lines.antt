use Rattle.std.specs.Prelude.{ℕ, ◌-◌, Bool, List, [], ◌∷◌, ◌++◌, take, length, nat_eq, nat_lt, if◌then◌else◌}
use Rattle.std.specs.List.{starts_with, ends_with}

-- the bytes and one newline more, also where they end with one
abbrev pub with_newline : List ℕ → List ℕ
with_newline bytes = bytes ++ 10 ∷ []

-- the word stands at the front
abbrev pub begins : List ℕ → List ℕ → Bool
begins word bytes = starts_with nat_eq bytes word

-- without a carriage return at the end
abbrev pub without_return : List ℕ → List ℕ
without_return bytes = if ends_with nat_eq bytes (13 ∷ []) then take (length bytes - 1) bytes else bytes

-- there is at least one byte
abbrev pub has_bytes : List ℕ → Bool
has_bytes bytes = nat_lt 0 (length bytes)

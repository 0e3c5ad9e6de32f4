use Rattle.std.specs.Prelude.{ℕ, Bool, not, ◌||◌, ◌==◌, List}
use Rattle.std.specs.List.{list_any}

-- `"`, `$`, a backslash or a backquote, which a shell reads between double quotes
abbrev pub is_quote_sign : ℕ → Bool
is_quote_sign byte = byte == 34 || byte == 36 || byte == 92 || byte == 96

-- what stands for itself between double quotes
abbrev pub is_path : List ℕ → Bool
is_path value = not (list_any is_quote_sign value)

use Rattle.std.specs.Prelude.{ℕ, ◌+◌, ◌/◌, ◌%◌, List, [], ◌∷◌, ◌++◌, codes}
use Rattle.std.specs.Fmt.{decimal}

-- nanoseconds in thousandths of a second, halves up
abbrev pub millis_of : ℕ → ℕ
millis_of nanos = (nanos + 500000) / 1000000

-- a number below 1000 in three digits
abbrev pub three_digits : ℕ → List ℕ
three_digits n = (48 + n / 100) ∷ (48 + n / 10 % 10) ∷ (48 + n % 10) ∷ []

-- nanoseconds in seconds with three places
abbrev pub printed_seconds : ℕ → List ℕ
printed_seconds nanos = decimal (millis_of nanos / 1000) ++ codes "." ++ three_digits (millis_of nanos % 1000)

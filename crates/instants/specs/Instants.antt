-- An instant as text (docs/FORMATS.md, "Instants").
use Rattle.std.specs.Prelude.{ℕ, ◌+◌, ◌-◌, ◌*◌, ◌/◌, ◌%◌, ◌^◌, ◌==◌, ◌&&◌, Bool, Option, Some, None, List, [], ◌∷◌, ◌++◌, take, drop, length, get_or, nat_eq, nat_lt, nat_le, pos, unsigned_abs, codes, if◌then◌else◌}
use Rattle.std.specs.Char.{is_ascii_digit}
use Rattle.std.specs.List.{starts_with, ends_with, list_all}
use Rattle.std.specs.Cmp.Lexicographic.{pointwise}
use Rattle.std.specs.Str.Parse.{digits_value}
use Rattle.jiff_core.specs.Calendar.{days_in_month, days_from_civil}
use Rattle.instants.specs.Calendar.{Day, day_of}

-- in seconds since 1970-01-01T00:00:00Z, and the nanoseconds behind them
pub record Moment : Type 0 where
  pub seconds : ℕ
  pub nanos : ℕ

-- What is read.

-- so many digits stand at a place
abbrev pub has_digits : (place size : ℕ) → List ℕ → Bool
has_digits place size bytes = list_all is_ascii_digit (take size (drop place bytes))

-- this byte stands at a place
abbrev pub has_byte : (place byte : ℕ) → List ℕ → Bool
has_byte place byte bytes = get_or bytes place 0 == byte

-- the bytes begin as `YYYY-MM-DD ` and some more
abbrev pub has_date_form : List ℕ → Bool
has_date_form bytes =
    has_digits 0 4 bytes && (has_byte 4 45 bytes && (has_digits 5 2 bytes && (has_byte 7 45 bytes && (has_digits 8 2 bytes && has_byte 10 32 bytes))))

-- behind them stands `HH:MM:SS`
abbrev pub has_clock_form : List ℕ → Bool
has_clock_form bytes =
    has_digits 11 2 bytes && (has_byte 13 58 bytes && (has_digits 14 2 bytes && (has_byte 16 58 bytes && has_digits 17 2 bytes)))

-- the bytes begin as `YYYY-MM-DD HH:MM:SS`
abbrev pub has_form : List ℕ → Bool
has_form bytes = nat_le 19 (length bytes) && (has_date_form bytes && has_clock_form bytes)

-- the number that the digits at a place write
abbrev pub number_at : (place size : ℕ) → List ℕ → ℕ
number_at place size bytes = digits_value 10 (take size (drop place bytes))

-- the calendar has this day, and it is none before 1970
abbrev pub is_day : Day → Bool
is_day d =
    nat_le 1970 d.year && (nat_le 1 d.month && (nat_le d.month 12 && (nat_le 1 d.day && nat_le d.day (days_in_month (pos d.year) d.month))))

-- how many days it lies behind 1970-01-01
abbrev pub day_number : Day → ℕ
day_number d = unsigned_abs (days_from_civil (pos d.year) d.month d.day)

-- the day that the bytes begin with
abbrev pub day_at : List ℕ → Day
day_at bytes = record { year = number_at 0 4 bytes; month = number_at 5 2 bytes; day = number_at 8 2 bytes }

-- a clock shows this hour, minute and second
abbrev pub is_clock : (hour minute second : ℕ) → Bool
is_clock hour minute second = nat_lt hour 24 && (nat_lt minute 60 && nat_lt second 60)

-- so many seconds behind midnight
abbrev pub clock_seconds : (hour minute second : ℕ) → ℕ
clock_seconds hour minute second = hour * 3600 + minute * 60 + second

-- in seconds since 1970-01-01T00:00:00Z
abbrev pub day_and_clock : Day → (hour minute second : ℕ) → ℕ
day_and_clock d hour minute second = day_number d * 86400 + clock_seconds hour minute second

-- the same, where the date and the time exist, from 1970 on and below 2^32 seconds
abbrev pub seconds_with : Day → (hour minute second : ℕ) → Option ℕ
seconds_with d hour minute second =
    if is_day d && (is_clock hour minute second && nat_lt (day_and_clock d hour minute second) (2 ^ 32)) then Some (day_and_clock d hour minute second) else None

-- of the date and the time that the bytes begin with
abbrev pub seconds_of : List ℕ → Option ℕ
seconds_of bytes =
    if has_form bytes then seconds_with (day_at bytes) (number_at 11 2 bytes) (number_at 14 2 bytes) (number_at 17 2 bytes) else None

-- 1 to 9 digits
abbrev pub is_fraction : List ℕ → Bool
is_fraction digits = list_all is_ascii_digit digits && (nat_le 1 (length digits) && nat_le (length digits) 9)

-- what stands between the first and the last byte
abbrev pub between_ends : List ℕ → List ℕ
between_ends bytes = take (length bytes - 2) (drop 1 bytes)

-- the nanoseconds that 1 to 9 digits behind a point write
abbrev pub fraction_with : List ℕ → Option ℕ
fraction_with digits = if is_fraction digits then Some (digits_value 10 digits * 10 ^ (9 - length digits)) else None

-- `Z`, or a point, 1 to 9 digits and `Z`: the nanoseconds
abbrev pub nanos_of : List ℕ → Option ℕ
nanos_of bytes =
    if pointwise nat_eq (codes "Z") bytes then Some 0
    else if starts_with nat_eq bytes (codes ".") && ends_with nat_eq bytes (codes "Z") then fraction_with (between_ends bytes)
    else None

-- of these seconds and nanoseconds, where both are told
abbrev pub moment_with : Option ℕ → Option ℕ → Option Moment
moment_with None nanos = None
moment_with (Some seconds) None = None
moment_with (Some seconds) (Some nanos) = Some (record { seconds = seconds; nanos = nanos })

-- the instant that the bytes tell
abbrev pub instant_of : List ℕ → Option Moment
instant_of bytes = moment_with (seconds_of bytes) (nanos_of (drop 19 bytes))

-- What is printed.

-- the last digit of the number
abbrev pub last_digit : ℕ → ℕ
last_digit n = 48 + n % 10

-- its last two digits
abbrev pub two_digits : ℕ → List ℕ
two_digits n = last_digit (n / 10) ∷ last_digit n ∷ []

-- its last four digits
abbrev pub four_digits : ℕ → List ℕ
four_digits n = two_digits (n / 100) ++ two_digits n

-- its last six digits
abbrev pub six_digits : ℕ → List ℕ
six_digits n = two_digits (n / 10000) ++ four_digits n

-- `YYYY-MM-DD`
abbrev pub day_text : Day → List ℕ
day_text d = four_digits d.year ++ codes "-" ++ two_digits d.month ++ codes "-" ++ two_digits d.day

-- `HH:MM:SS`, so many seconds behind midnight
abbrev pub clock_text : ℕ → List ℕ
clock_text seconds = two_digits (seconds / 3600) ++ codes ":" ++ two_digits (seconds / 60 % 60) ++ codes ":" ++ two_digits (seconds % 60)

-- `YYYY-MM-DD HH:MM:SS`, so many seconds behind 1970-01-01T00:00:00Z
abbrev pub second_text : ℕ → List ℕ
second_text seconds = day_text (day_of (seconds / 86400)) ++ codes " " ++ clock_text (seconds % 86400)

-- `YYYY-MM-DD HH:MM:SS.ffffff`, so many nanoseconds behind 1970-01-01T00:00:00Z, to the microsecond, rounded down
unfoldable pub instant_text : ℕ → List ℕ
instant_text nanos = second_text (nanos / 1000000000) ++ codes "." ++ six_digits (nanos % 1000000000 / 1000)

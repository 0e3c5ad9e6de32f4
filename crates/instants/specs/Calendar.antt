-- The days of the calendar from 1970 on (docs/FORMATS.md, "Instants"). The library of dates says which days a month has.
use Rattle.std.specs.Prelude.{ℕ, zero, suc, ◌+◌, pos, nat_lt, if◌then◌else◌}
use Rattle.jiff_core.specs.Calendar.{days_in_month}

-- a day, by its numbers as they are written
pub record Day : Type 0 where
  pub year : ℕ
  pub month : ℕ
  pub day : ℕ

-- the first of January
abbrev pub first_of_year : ℕ → Day
first_of_year year = record { year = year; month = 1; day = 1 }

-- the first day of a month
abbrev pub first_of_month : ℕ → ℕ → Day
first_of_month year month = record { year = year; month = month; day = 1 }

-- the day after: the next of the month, or else the first of the next month, or else of the next year
abbrev pub day_after : Day → Day
day_after d =
    if nat_lt d.day (days_in_month (pos d.year) d.month) then record { year = d.year; month = d.month; day = d.day + 1 }
    else if nat_lt d.month 12 then first_of_month d.year (d.month + 1)
    else first_of_year (d.year + 1)

-- the day that lies so many days behind 1970-01-01
unfoldable pub day_of : ℕ → Day
day_of zero = first_of_year 1970
day_of (suc days) = day_after (day_of days)

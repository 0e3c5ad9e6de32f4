-- What the code's parts of an instant mean, and how they stand to those of the library of dates.
use Rattle.std.specs.Prelude.{◌≡◌, ◌≤◌, ℕ, ◌+◌, ◌*◌, ◌<◌, ◌^◌, ℤ, pos, ◌<ℤ◌, ◌≤ℤ◌}
use Rattle.instants.specs.declared.instant.Told.{Told}
use Rattle.instants.specs.declared.instant.Instant.{Instant}
use Rattle.instants.specs.declared.instant_text.Date.{Date}
use Rattle.jiff_core.specs.declared.civil.date.Date.{Date as LibraryDate}
use Rattle.instants.specs.Calendar.{Day, day_of}
use Rattle.instants.specs.Instants.{Moment}

-- the instant, in nanoseconds, lies in this second
pub record IsSecondOf (seconds : ℕ) (nanos : ℤ) : Type 0 where
  pub fits : seconds < 2 ^ 32
  pub low : pos (seconds * 1000000000) ≤ℤ nanos
  pub high : nanos <ℤ pos ((seconds + 1) * 1000000000)

-- four digits of the year, and two of each other part
pub record FitsDigits (told : Told) : Type 0 where
  pub year : told.year < 10000
  pub month : told.month < 100
  pub day : told.day < 100
  pub hour : told.hour < 100
  pub minute : told.minute < 100
  pub second : told.second < 100

-- the day of it
abbrev pub day_told : Told → Day
day_told told = record { year = told.year; month = told.month; day = told.day }

-- the instant
abbrev pub meant : Instant → Moment
meant instant = record { seconds = instant.seconds; nanos = instant.nanos }

-- the day
abbrev pub day_meant : Date → Day
day_meant date = record { year = date.year; month = date.month; day = date.day }

-- the library's date is the day that lies so many days behind 1970-01-01
pub record IsDayOf (n : ℕ) (date : LibraryDate) : Type 0 where
  pub year : date.year ≡ pos (day_of n).year
  pub month : date.month ≡ (day_of n).month
  pub day : date.day ≡ (day_of n).day
  pub few : (day_of n).year ≤ 9999

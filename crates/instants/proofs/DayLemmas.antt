-- The days of the calendar from 1970 on, and the day numbers of the library of dates.
use Rattle.std.proofs.Common.{◌≡◌, ℕ, zero, suc, ◌+◌, ◌*◌, ◌/◌, ◌^◌, ◌<◌, ◌≤◌, refl, sym, ◌∙◌, arith, ℤ, pos, ◌≤ℤ◌, nat_lt, inl, inr, unsigned_abs, to_z, of_z, w8, w16}
use Rattle.std.proofs.lemmas.Bool.{cond_both, cases_lt, ltb-true, ltb-false}
use Rattle.std.specs.Int.{IsInRange}
use Rattle.jiff_core.specs.declared.civil.date.Date.{Date}
use Rattle.jiff_core.specs.declared.civil.datetime.DateTime.{DateTime}
use Rattle.jiff_core.specs.DateTime.{civil_nanos}
use Rattle.jiff_core.specs.Date.{epoch_day}
use Rattle.jiff_core.proofs.DateTimeLemmas.{civil_nanos-parts, time_nanos_bound}
use Rattle.instants.specs.Dates.{IsDayOf}
use Rattle.jiff_core.specs.Calendar.{days_from_civil, days_in_month, day_count, IsYear}
use Rattle.jiff_core.proofs.SignedLemmas.{signed_arith, back_small}
use Rattle.jiff_core.proofs.CalendarLemmas.{days_in_month_bounds, days_from_civil-day_count, day_count-epoch, day_count-later_year, day_count-end, day_count-day_of_year}
use Rattle.jiff_core.proofs.DateLemmas.{days_from_civil-day, days_from_civil-next_month, days_from_civil-next_year, epoch_day_injective}
use Rattle.jiff_core.proofs.StandardFacts.{known_days}
use Rattle.instants.specs.Calendar.{Day, first_of_year, first_of_month, day_after, day_of}

-- the day is one of the calendar, not before 1970, and has this number
pub record IsDayNumber (n : ℕ) (d : Day) : Type 0 where
  pub from : 1970 ≤ d.year
  pub month : IsInRange 1 12 d.month
  pub day : IsInRange 1 (days_in_month (pos d.year) d.month) d.day
  pub number : days_from_civil (pos d.year) d.month d.day ≡ pos n

next_day : (n : ℕ) (d : Day) → IsDayNumber n d → d.day < days_in_month (pos d.year) d.month → IsDayNumber (suc n) (record { year = d.year; month = d.month; day = d.day + 1 })
next_day n d is below = record {
  from = is.from;
  month = is.month;
  day = (omega (arith, is.day), omega (arith, below));
  number = omega (arith, signed_arith, is.number, is.day, days_from_civil-day (pos d.year) d.month d.day (d.day + 1) is.day.0 (omega arith));
}

next_month : (n : ℕ) (d : Day) → IsDayNumber n d → days_in_month (pos d.year) d.month ≤ d.day → d.month < 12 → IsDayNumber (suc n) (first_of_month d.year (d.month + 1))
next_month n d is last below = record {
  from = is.from;
  month = (omega arith, omega (arith, below));
  day = (omega arith, omega (arith, days_in_month_bounds (pos d.year) (d.month + 1)));
  number = omega (arith, signed_arith, is.number, days_from_civil-next_month (pos d.year) d.month d.day is.month.0 (omega (arith, is.day, last)));
}

december_is_last : (y n m d : ℕ) → m ≡ 12 → IsInRange 1 (days_in_month (pos y) m) d → days_in_month (pos y) m ≤ d → days_from_civil (pos y) m d ≡ pos n → days_from_civil (pos y) 12 31 ≡ pos n
december_is_last y n m d is day last number =
    let most = rw is at day in
    let least = rw is at last in
    let d-is : d ≡ 31 = omega (arith, most, least) in
    rw (is, d-is) at number

next_year : (n : ℕ) (d : Day) → IsDayNumber n d → days_in_month (pos d.year) d.month ≤ d.day → 12 ≤ d.month → IsDayNumber (suc n) (first_of_year (d.year + 1))
next_year n d is last december = record {
  from = omega (arith, is.from);
  month = (omega arith, omega arith);
  day = (omega arith, omega (arith, days_in_month_bounds (pos (d.year + 1)) 1));
  number =
      let ended = december_is_last d.year n d.month d.day (omega (arith, is.month)) is.day last is.number in
      omega (arith, signed_arith, ended, days_from_civil-next_year (pos d.year) (pos (d.year + 1)) (omega (arith, signed_arith)) (omega (arith, signed_arith)));
}

next : (n : ℕ) (d : Day) → IsDayNumber n d → IsDayNumber (suc n) (day_after d)
next n d is =
    cond_both (nat_lt d.day (days_in_month (pos d.year) d.month)) _ _ (IsDayNumber (suc n))
    (λ below. next_day n d is (ltb-true d.day (days_in_month (pos d.year) d.month) below))
    (λ last. cond_both (nat_lt d.month 12) _ _ (IsDayNumber (suc n))
    (λ month. next_month n d is (ltb-false d.day (days_in_month (pos d.year) d.month) last) (ltb-true d.month 12 month))
    (λ month. next_year n d is (ltb-false d.day (days_in_month (pos d.year) d.month) last) (ltb-false d.month 12 month)))

pub numbered : (n : ℕ) → IsDayNumber n (day_of n)
unfolding day_of
numbered zero = record { from = omega arith; month = (omega arith, omega arith); day = (omega arith, omega arith); number = known_days.0 }
numbered (suc n) = next n (day_of n) (numbered n)

-- a year above 9999 begins behind the last day that the library has
late : (y m d : ℕ) → 9999 < y → 1 ≤ d → 7304850 ≤ day_count (pos y) m d
late y m d above one =
    let start : 7304850 ≤ day_count (pos y) 1 1 =
    elim (cases_lt 10000 y) [
      | inl later ↦ omega (arith, day_count-end, day_count-later_year (pos 10000) (pos y) (omega (arith, signed_arith)) (omega (arith, signed_arith)))
      | inr here ↦ let is : y ≡ 10000 = omega arith in rw is (omega (arith, day_count-end))
    ] in
    omega (arith, start, day_count-day_of_year (pos y) m d one)

pub has_year : (n : ℕ) (d : Day) → n ≤ 2932896 → IsDayNumber n d → IsYear (pos d.year)
has_year n d few is =
    elim (cases_lt 9999 d.year) [
      | inl above ↦ absurd (omega (arith, signed_arith, is.number, days_from_civil-day_count (pos d.year) d.month d.day, late d.year d.month d.day above is.day.0))
      | inr here ↦ (omega (arith, signed_arith), omega (arith, signed_arith))
    ]

-- the date of the library that has these parts
date_with : (n : ℕ) (d : Day) → n ≤ 2932896 → IsDayNumber n d → Date
date_with n d few is = record { year = pos d.year; month = d.month; day = d.day; year_in = has_year n d few is; month_in = is.month; day_in = is.day }

-- a date with this number has the parts of the day
pub parts_of_date : (n : ℕ) (a : Date) → n ≤ 2932896 → epoch_day a ≡ pos n → (a.year ≡ pos (day_of n).year) × (a.month ≡ (day_of n).month) × (a.day ≡ (day_of n).day)
unfolding date_with
parts_of_date n a few is =
    let this = numbered n in
    epoch_day_injective a (date_with n (day_of n) few this) (is ∙ sym this.number)

-- a day of the calendar from 1970 on has a number that is not negative
pub not_before : (y m d : ℕ) → 1970 ≤ y → 1 ≤ d → pos 0 ≤ℤ days_from_civil (pos y) m d
not_before y m d from one =
    let start : 4371953 ≤ day_count (pos y) 1 1 =
    elim (cases_lt 1970 y) [
      | inl later ↦ omega (arith, day_count-epoch, day_count-later_year (pos 1970) (pos y) (omega (arith, signed_arith)) (omega (arith, signed_arith)))
      | inr here ↦ let is : y ≡ 1970 = omega arith in rw is (omega (arith, day_count-epoch))
    ] in
    omega (arith, signed_arith, start, day_count-day_of_year (pos y) m d one, days_from_civil-day_count (pos y) m d)

-- the date of the library's date and time that lies so many seconds behind 1970
pub date_of_seconds : (n : ℕ) (dt : DateTime) → n < 2 ^ 35 → civil_nanos dt ≡ pos (n * 1000000000) → IsDayOf (n / 86400) dt.date
date_of_seconds n dt fits is =
    let few : n / 86400 ≤ 2932896 = omega (arith, fits) in
    let day : epoch_day dt.date ≡ pos (n / 86400) = omega (arith, signed_arith, is, civil_nanos-parts dt, time_nanos_bound dt.time) in
    let parts = parts_of_date (n / 86400) dt.date few day in
    let this = numbered (n / 86400) in
    let year = has_year (n / 86400) (day_of (n / 86400)) few this in
    record {
      year = parts.0;
      month = parts.1;
      day = parts.2;
      few = omega (arith, signed_arith, year);
    }

-- a small number comes back from a signed type
pub back_year : (z : ℤ) (n : ℕ) → z ≡ pos n → n ≤ 9999 → unsigned_abs (to_z w16 (of_z w16 z)) ≡ n
back_year z n is few =
    let small : unsigned_abs z < 32768 = rw is (omega (arith, few)) in
    rw (back_small w16 z small, is) refl

pub back_part : (z : ℤ) (n : ℕ) → z ≡ pos n → n ≤ 31 → unsigned_abs (to_z w8 (of_z w8 z)) ≡ n
back_part z n is few =
    let small : unsigned_abs z < 128 = rw is (omega (arith, few)) in
    rw (back_small w8 z small, is) refl

pub day_back : (y m d : ℤ) (n : ℕ) (date : Date) → y ≡ date.year → m ≡ pos date.month → d ≡ pos date.day → IsDayOf n date → ◌≡◌ {A = Day} (record { year = unsigned_abs (to_z w16 (of_z w16 y)); month = unsigned_abs (to_z w8 (of_z w8 m)); day = unsigned_abs (to_z w8 (of_z w8 d)) }) (day_of n)
day_back y m d n date year month day is =
    let month-few : date.month ≤ 31 = omega (arith, date.month_in) in
    let day-few : date.day ≤ 31 = omega (arith, date.day_in, days_in_month_bounds date.year date.month) in
    rw (back_year y (day_of n).year (year ∙ is.year) is.few, back_part m date.month month month-few, back_part d date.day day day-few, is.month, is.day) refl

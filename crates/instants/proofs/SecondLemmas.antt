-- The seconds that a date and a time of the library tell.
use Rattle.std.proofs.Common.{◌≡◌, ℕ, ◌*◌, ◌<◌, ◌≤◌, ◌^◌, arith, ℤ, pos, negsuc, ◌≤ℤ◌, Option, Some, None, true, sym, ◌∙◌, refl, ap, unsigned_abs}
use Rattle.std.proofs.lemmas.Bool.{and_from, and_parts, le-leb, lt-ltb, leb-true, ltb-true, cond-true, cond-false, false_from_ne_true}
use Rattle.std.specs.Option.{IfSome, IsNone}
use Rattle.std.specs.Int.{IsInRange}
use Rattle.jiff_core.specs.declared.civil.datetime.DateTime.{DateTime}
use Rattle.jiff_core.specs.DateTime.{civil_nanos}
use Rattle.jiff_core.specs.Date.{epoch_day, IsYmd}
use Rattle.jiff_core.specs.Time.{IsHms, IsTime}
use Rattle.jiff_core.specs.Calendar.{IsDate, days_from_civil, days_in_month}
use Rattle.jiff_core.proofs.SignedLemmas.{signed_arith}
use Rattle.jiff_core.proofs.DateTimeLemmas.{civil_nanos-parts}
use Rattle.instants.specs.Calendar.{Day}
use Rattle.instants.specs.Instants.{is_day, is_clock, day_number, day_and_clock, seconds_with}
use Rattle.instants.specs.Dates.{IsSecondOf}
use Rattle.instants.proofs.DayLemmas.{not_before}

-- the day has these parts, and the library's date too
same_day : (d : Day) (dt : DateTime) → IsYmd (pos d.year) (pos d.month) (pos d.day) dt.date → epoch_day dt.date ≡ days_from_civil (pos d.year) d.month d.day
same_day d dt parts =
    let month : dt.date.month ≡ d.month = omega (arith, signed_arith, parts.1) in
    let day : dt.date.day ≡ d.day = omega (arith, signed_arith, parts.2) in
    rw (parts.0, month, day)

not_negative : (z : ℤ) → pos 0 ≤ℤ z → z ≡ pos (unsigned_abs z)
not_negative (pos n) low = refl
not_negative (negsuc n) low = absurd (omega (arith, signed_arith, low))

pub nanos_told : (d : Day) (hour minute second : ℕ) (dt : DateTime) → 1970 ≤ d.year → IsYmd (pos d.year) (pos d.month) (pos d.day) dt.date → IsHms (pos hour) (pos minute) (pos second) (pos 0) dt.time → civil_nanos dt ≡ pos (day_and_clock d hour minute second * 1000000000)
nanos_told d hour minute second dt from parts clock =
    let one : 1 ≤ d.day = omega (arith, signed_arith, parts.2, dt.date.day_in) in
    let days : epoch_day dt.date ≡ pos (day_number d) = same_day d dt parts ∙ not_negative _ (not_before d.year d.month d.day from one) in
    let whole = rw days at (civil_nanos-parts dt) in
    omega (arith, signed_arith, whole, clock)

-- the date and the time exist, and are not before 1970
pub record IsRealSecond (d : Day) (hour minute second : ℕ) : Type 0 where
  pub from : 1970 ≤ d.year
  pub month : IsInRange 1 12 d.month
  pub day : IsInRange 1 (days_in_month (pos d.year) d.month) d.day
  pub hour_in : hour < 24
  pub minute_in : minute < 60
  pub second_in : second < 60

is_day_there : (d : Day) → 1970 ≤ d.year → IsInRange 1 12 d.month → IsInRange 1 (days_in_month (pos d.year) d.month) d.day → is_day d ≡ true
is_day_there d from month day =
    and_from _ _ (le-leb 1970 d.year from) (and_from _ _ (le-leb 1 d.month month.0) (and_from _ _ (le-leb d.month 12 month.1) (and_from _ _ (le-leb 1 d.day day.0) (le-leb d.day (days_in_month (pos d.year) d.month) day.1))))

is_clock_there : (hour minute second : ℕ) → hour < 24 → minute < 60 → second < 60 → is_clock hour minute second ≡ true
is_clock_there hour minute second h m s = and_from _ _ (lt-ltb hour 24 h) (and_from _ _ (lt-ltb minute 60 m) (lt-ltb second 60 s))

there_from : (d : Day) (hour minute second : ℕ) → is_day d ≡ true → is_clock hour minute second ≡ true → IsRealSecond d hour minute second
there_from d hour minute second day clock =
    let a = and_parts _ _ day in
    let b = and_parts _ _ a.1 in
    let e = and_parts _ _ b.1 in
    let f = and_parts _ _ e.1 in
    let g = and_parts _ _ clock in
    let h = and_parts _ _ g.1 in
    record {
      from = leb-true 1970 d.year a.0;
      month = (leb-true 1 d.month b.0, leb-true d.month 12 e.0);
      day = (leb-true 1 d.day f.0, leb-true d.day (days_in_month (pos d.year) d.month) f.1);
      hour_in = ltb-true hour 24 g.0;
      minute_in = ltb-true minute 60 h.0;
      second_in = ltb-true second 60 h.1;
    }

there_some : (d : Day) (hour minute second n : ℕ) → IsRealSecond d hour minute second → n ≡ day_and_clock d hour minute second → n < 2 ^ 32 → Some n ≡ seconds_with d hour minute second
there_some d hour minute second n there is below =
    ap (λ (x : ℕ). Some x) is ∙ sym (cond-true _ (Some (day_and_clock d hour minute second)) None
    (and_from _ _ (is_day_there d there.from there.month there.day) (and_from _ _ (is_clock_there hour minute second there.hour_in there.minute_in there.second_in) (lt-ltb (day_and_clock d hour minute second) (2 ^ 32) (rw (← is) below)))))

there_none : (d : Day) (hour minute second : ℕ) → (IsRealSecond d hour minute second → day_and_clock d hour minute second < 2 ^ 32 → ⊥) → None ≡ seconds_with d hour minute second
there_none d hour minute second not =
    sym (cond-false _ (Some (day_and_clock d hour minute second)) None (false_from_ne_true _ (λ all.
    let a = and_parts _ _ all in
    let b = and_parts _ _ a.1 in
    not (there_from d hour minute second a.0 b.0) (ltb-true (day_and_clock d hour minute second) (2 ^ 32) b.1))))

there_shown : (d : Day) (hour minute second : ℕ) (dt : DateTime) → 1970 ≤ d.year → IsYmd (pos d.year) (pos d.month) (pos d.day) dt.date → IsHms (pos hour) (pos minute) (pos second) (pos 0) dt.time → IsRealSecond d hour minute second
there_shown d hour minute second dt from parts clock =
    let month : dt.date.month ≡ d.month = omega (arith, signed_arith, parts.1) in
    let day : dt.date.day ≡ d.day = omega (arith, signed_arith, parts.2) in
    record {
      from = from;
      month = rw month at dt.date.month_in;
      day = rw (parts.0, month, day) at dt.date.day_in;
      hour_in = omega (arith, signed_arith, clock, dt.time.hour_in);
      minute_in = omega (arith, signed_arith, clock, dt.time.minute_in);
      second_in = omega (arith, signed_arith, clock, dt.time.second_in);
    }

-- the library has the date and time, and r is their second, where it fits
pub shown : (d : Day) (hour minute second : ℕ) (dt : DateTime) (r : Option ℕ) → 1970 ≤ d.year → IsYmd (pos d.year) (pos d.month) (pos d.day) dt.date → IsHms (pos hour) (pos minute) (pos second) (pos 0) dt.time → IfSome r (λ n. IsSecondOf n (civil_nanos dt)) → (IsNone r → pos (2 ^ 32 * 1000000000) ≤ℤ civil_nanos dt) → r ≡ seconds_with d hour minute second
shown d hour minute second dt (Some n) from parts clock some none =
    let nanos = nanos_told d hour minute second dt from parts clock in
    there_some d hour minute second n (there_shown d hour minute second dt from parts clock) (omega (arith, signed_arith, nanos, some.low, some.high)) some.fits
shown d hour minute second dt None from parts clock some none =
    let nanos = nanos_told d hour minute second dt from parts clock in
    let over = none refl in
    there_none d hour minute second (λ there below. omega (arith, signed_arith, nanos, over, below))

-- the library has no such date and time
pub not_shown : (d : Day) (hour minute second : ℕ) → (IsDate (pos d.year) (pos d.month) (pos d.day) → IsTime (pos hour) (pos minute) (pos second) (pos 0) → ⊥) → d.year ≤ 9999 → None ≡ seconds_with d hour minute second
not_shown d hour minute second not few =
    there_none d hour minute second (λ there below. not
    ((omega (arith, signed_arith), omega (arith, signed_arith)), (omega (arith, signed_arith, there.month), omega (arith, signed_arith, there.month)), (omega (arith, signed_arith, there.day), omega (arith, signed_arith, there.day)))
    ((omega (arith, signed_arith), omega (arith, signed_arith, there.hour_in)), (omega (arith, signed_arith), omega (arith, signed_arith, there.minute_in)), (omega (arith, signed_arith), omega (arith, signed_arith, there.second_in)), (omega (arith, signed_arith), omega (arith, signed_arith))))

pub too_early : (d : Day) (hour minute second : ℕ) → d.year < 1970 → None ≡ seconds_with d hour minute second
too_early d hour minute second early = there_none d hour minute second (λ there below. omega (arith, there.from, early))

pub shown_positive : (d : Day) (hour minute second : ℕ) (dt : DateTime) → 1970 ≤ d.year → IsYmd (pos d.year) (pos d.month) (pos d.day) dt.date → IsHms (pos hour) (pos minute) (pos second) (pos 0) dt.time → pos 0 ≤ℤ civil_nanos dt
shown_positive d hour minute second dt from parts clock = omega (arith, signed_arith, nanos_told d hour minute second dt from parts clock)

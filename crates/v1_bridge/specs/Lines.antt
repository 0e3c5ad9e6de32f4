-- What one line of version 1 is (docs/FORMATS.md, "Version 1").
use Rattle.std.specs.Prelude.{ℕ, ◌^◌, ◌<◌, ◌-◌, ◌&&◌, ◌||◌, min, Bool, Option, Some, None, List, [], ◌∷◌, take, drop, length, nat_eq, nat_le, codes, if◌then◌else◌, ◌≡◌, ⊤}
use Rattle.std.specs.List.{ends_with, list_all}
use Rattle.std.specs.Char.{is_ascii_digit}
use Rattle.std.specs.Cmp.Lexicographic.{pointwise}
use Rattle.std.proofs.Common.{lit<}
use Rattle.std.proofs.Math.Nat.{min-le_right, lt_of_le_of_lt}
use Rattle.packet_codec.specs.declared.stamp.Stamp.{Stamp}
use Rattle.packet_codec.specs.declared.status.Status.{Status}
use Rattle.packet_codec.specs.declared.status.Status.TheVariants as status
use Rattle.instants.specs.Instants.{Moment, instant_of}
use Rattle.sub_number.specs.Lines.{without_return, begins}

-- The line begins a test; it tells how one ended, with what stands behind the word; it tells the time; it changes the
-- tags, as these words say; it tells how far the tests are; or it is any other.
pub data V1Line : Type 0 where
  test : List ℕ → V1Line
  outcome : Status → List ℕ → V1Line
  time : Stamp → V1Line
  tagging : List ℕ → V1Line
  progress : V1Line
  other : V1Line

-- without a newline at the end
abbrev pub without_newline : List ℕ → List ℕ
without_newline bytes = if ends_with nat_eq bytes (10 ∷ []) then take (length bytes - 1) bytes else bytes

-- what a line says, without its newline and a carriage return before it
abbrev pub content : List ℕ → List ℕ
content bytes = without_return (without_newline bytes)

-- nanoseconds that are cut to fewer than 10^9 have at most 30 bits, which a stamp asks for
abbrev pub nanos_fit : (nanos : ℕ) → min nanos 999999999 < 2 ^ 30
nanos_fit nanos = lt_of_le_of_lt (min-le_right nanos 999999999) (lit< tt)

-- the moment as an event tells it; its nanoseconds are fewer than 10^9
abbrev pub stamp_at : Moment → Stamp
stamp_at m = record { seconds = m.seconds; nanos = min m.nanos 999999999; nanos_fit = nanos_fit m.nanos }

-- a line of a time, where there is one
abbrev pub time_with : Option Moment → V1Line
time_with None = other
time_with (Some moment) = time (stamp_at moment)

-- a word that begins a test, a colon and a space, and what stands behind them
abbrev pub test_begun : List ℕ → Option (List ℕ)
test_begun bytes =
    if begins (codes "test: ") bytes then Some (drop 6 bytes)
    else if begins (codes "testing: ") bytes then Some (drop 9 bytes)
    else None

-- how a test ended, and what stands behind the word
pub record EndedLine : Type 0 where
  pub how : Status
  pub rest : List ℕ

-- what a line tells of a test that ended so, where these bytes stand behind the word
abbrev pub ended_as : Status → List ℕ → Option EndedLine
ended_as how rest = Some (record { how = how; rest = rest })

-- a word that tells how a test ended, a colon and a space, and what stands behind them
abbrev pub outcome_of : List ℕ → Option EndedLine
outcome_of bytes =
    if begins (codes "success: ") bytes then ended_as status.Success (drop 9 bytes)
    else if begins (codes "successful: ") bytes then ended_as status.Success (drop 12 bytes)
    else if begins (codes "failure: ") bytes then ended_as status.Fail (drop 9 bytes)
    else if begins (codes "error: ") bytes then ended_as status.Fail (drop 7 bytes)
    else if begins (codes "skip: ") bytes then ended_as status.Skip (drop 6 bytes)
    else if begins (codes "xfail: ") bytes then ended_as status.XFail (drop 7 bytes)
    else if begins (codes "uxsuccess: ") bytes then ended_as status.UxSuccess (drop 11 bytes)
    else None

-- without one sign at the front
abbrev pub unsigned : List ℕ → List ℕ
unsigned bytes = if begins (codes "+") bytes || begins (codes "-") bytes then drop 1 bytes else bytes

-- 1 to 9 digits
abbrev pub is_short_number : List ℕ → Bool
is_short_number bytes = list_all is_ascii_digit bytes && (nat_le 1 (length bytes) && nat_le (length bytes) 9)

-- `push`, `pop`, or a count with a sign before it or none
abbrev pub is_progress : List ℕ → Bool
is_progress bytes = pointwise nat_eq bytes (codes "push") || (pointwise nat_eq bytes (codes "pop") || is_short_number (unsigned bytes))

-- a line of progress, where these bytes tell it
abbrev pub progress_with : List ℕ → V1Line
progress_with bytes = if is_progress bytes then progress else other

-- a line that tells the time, changes the tags or tells of progress, or any other
abbrev pub other_of : List ℕ → V1Line
other_of bytes =
    if begins (codes "time: ") bytes then time_with (instant_of (drop 6 bytes))
    else if begins (codes "tags: ") bytes then tagging (drop 6 bytes)
    else if begins (codes "progress: ") bytes then progress_with (drop 10 bytes)
    else other

-- the line of this outcome, where there is one, and else what these bytes are that neither begin nor end a test
abbrev pub outcome_or : Option EndedLine → List ℕ → V1Line
outcome_or None bytes = other_of bytes
outcome_or (Some ended) bytes = outcome ended.how ended.rest

-- the line that begins the test of this id, where there is one, and else what these bytes are that begin none
abbrev pub test_or : Option (List ℕ) → List ℕ → V1Line
test_or None bytes = outcome_or (outcome_of bytes) bytes
test_or (Some id) bytes = test id

-- what a line is, of which this is the content
abbrev pub line_of : List ℕ → V1Line
line_of bytes = test_or (test_begun bytes) bytes

-- no newline is among the bytes
abbrev pub HasNoNewline : List ℕ → Type 0
HasNoNewline [] = ⊤
HasNoNewline (byte ∷ bytes) = (byte ≡ 10 → ⊥) × HasNoNewline bytes

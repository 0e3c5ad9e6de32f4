-- What the answers to probes say (docs/FORMATS.md, "Causes").
use Rattle.std.specs.Prelude.{◌≡◌, ◌↔◌, ◌⊎◌, ℕ, ◌+◌, ◌-◌, ◌/◌, ◌<◌, ◌≤◌, max, Bool, true, false, IsTrue, List, length}
use Rattle.std.specs.List.{Contains}
use Rattle.std.specs.Int.Digits.{digits_of}
use Rattle.isolation_bisect.specs.declared.probe.Asked.{Asked}
use Rattle.isolation_bisect.specs.declared.probe.Probe.{Probe}
use Rattle.isolation_bisect.specs.declared.probe.Probe.TheVariants as probe
use Rattle.isolation_bisect.specs.declared.found.Found.{Found}
use Rattle.isolation_bisect.specs.declared.found.Found.TheVariants as found

-- a search among so many candidates: its probes with their answers, the oldest first
pub record Search : Type 0 where
  pub candidates : ℕ
  pub asked : List Asked

-- the probe was asked, and answered so: the test failed, or it passed
abbrev pub WasAnswered : List Asked → Probe → Bool → Type 0
WasAnswered asked probe failed = Contains asked (record { probe = probe; failed = failed })

-- where the second half of a span begins
abbrev pub middle : ℕ → ℕ → ℕ
middle from to = from + (to - from) / 2

-- a span of at least two failed, and both its halves passed
pub record FailsTogether (asked : List Asked) (from to : ℕ) : Type 0 where
  pub two : from + 2 ≤ to
  pub whole : WasAnswered asked (probe.Span from to) true
  pub first : WasAnswered asked (probe.Span from (middle from to)) false
  pub second : WasAnswered asked (probe.Span (middle from to) to) false

-- the probes and their answers license a verdict on a test that has so many candidates
abbrev pub Licenses : List Asked → ℕ → Found → Type 0
Licenses asked candidates found.Alone = WasAnswered asked probe.Alone true
Licenses asked candidates found.NotSeen =
    WasAnswered asked probe.Alone false × ((candidates ≡ 0) ⊎ WasAnswered asked (probe.Span 0 candidates) false)
Licenses asked candidates (found.Cause cause) =
    WasAnswered asked probe.Alone false × WasAnswered asked (probe.Span cause (cause + 1)) true
Licenses asked candidates found.Several =
    WasAnswered asked probe.Alone false × ((from : ℕ) × (to : ℕ) × FailsTogether asked from to)

-- the probe runs the candidate
abbrev pub Runs : Probe → ℕ → Type 0
Runs probe.Alone candidate = ⊥
Runs (probe.Span from to) candidate = (from ≤ candidate) × (candidate < to)

-- the test failed exactly where this candidate ran before it
abbrev pub IsAnsweredBy : ℕ → Asked → Type 0
IsAnsweredBy cause one = IsTrue one.failed ↔ Runs one.probe cause

-- how many binary digits a number has: one at least
unfoldable pub binary_digits : ℕ → ℕ
binary_digits number = max 1 (length (digits_of 2 number))

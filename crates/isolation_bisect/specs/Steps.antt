-- How the code keeps where a search stands.
use Rattle.std.specs.Prelude.{◌≡◌, ◌⊎◌, ⊤, ℕ, ◌+◌, ◌-◌, ◌*◌, ◌^◌, ◌<◌, ◌≤◌, ◌==◌, nat_lt, Bool, true, false, Option, None, Some, List, [], ◌∷◌, length, if◌then◌else◌}
use Rattle.isolation_bisect.specs.declared.probe.Asked.{Asked}
use Rattle.isolation_bisect.specs.declared.probe.Probe.{Probe}
use Rattle.isolation_bisect.specs.declared.probe.Probe.TheVariants as probe
use Rattle.isolation_bisect.specs.declared.found.Found.{Found}
use Rattle.isolation_bisect.specs.declared.found.Found.TheVariants as found
use Rattle.isolation_bisect.specs.declared.step.Step.{Step}
use Rattle.isolation_bisect.specs.declared.step.Step.TheVariants.{Alone, Whole, First, Second, Done}
use Rattle.isolation_bisect.specs.Verdicts.{WasAnswered, middle}
use Rattle.isolation_bisect.specs.Orders.{answer_to, last_failed, AskedInOrder}

-- a span that is halved has at least two
abbrev pub IsSpan : ℕ → Step → Type 0
IsSpan candidates Alone = ⊤
IsSpan candidates Whole = 0 < candidates
IsSpan candidates (First from to) = from + 2 ≤ to
IsSpan candidates (Second from to) = from + 2 ≤ to
IsSpan candidates (Done found) = ⊤

-- the probe that is asked at this step, unless the search has ended
abbrev pub probe_of : ℕ → Step → Option Probe
probe_of candidates Alone = Some probe.Alone
probe_of candidates Whole = Some (probe.Span 0 candidates)
probe_of candidates (First from to) = Some (probe.Span from (middle from to))
probe_of candidates (Second from to) = Some (probe.Span (middle from to) to)
probe_of candidates (Done found) = None

-- where a search stands behind a span that failed: one candidate is the cause, and more of them are halved
abbrev pub step_within : ℕ → ℕ → Step
step_within from to = if nat_lt (to - from) 2 then Done (found.Cause from) else First from to

-- where a search stands behind the answer to its probe
abbrev pub step_after : ℕ → Step → Bool → Step
step_after candidates Alone true = Done found.Alone
step_after candidates Alone false = if candidates == 0 then Done found.NotSeen else Whole
step_after candidates Whole true = step_within 0 candidates
step_after candidates Whole false = Done found.NotSeen
step_after candidates (First from to) true = step_within from (middle from to)
step_after candidates (First from to) false = Second from to
step_after candidates (Second from to) true = step_within (middle from to) to
step_after candidates (Second from to) false = Done found.Several
step_after candidates (Done found) failed = Done found

-- a probe with its answer
abbrev pub answered : Probe → Bool → Asked
answered probe failed = record { probe = probe; failed = failed }

-- The span is the last that failed. Each span that failed holds it, and none that passed reaches into what is left of
-- it from a place on.
pub record IsNarrowed (candidates : ℕ) (asked : List Asked) (from left to : ℕ) : Type 0 where
  pub alone : answer_to asked probe.Alone ≡ Some false
  pub whole : answer_to asked (probe.Span 0 candidates) ≡ Some true
  pub last : last_failed asked ≡ Some (from, to)
  pub here : WasAnswered asked (probe.Span from to) true
  pub some : from < to
  pub starts : from ≤ left
  pub ends : left ≤ to
  pub inside : to ≤ candidates
  pub not_alone : ¬ (WasAnswered asked probe.Alone true)
  pub failed : (start stop : ℕ) → WasAnswered asked (probe.Span start stop) true → (start ≤ from) × (to ≤ stop)
  pub passed : (start stop : ℕ) → WasAnswered asked (probe.Span start stop) false → (stop ≤ left) ⊎ (to ≤ start)
  pub parts : (start stop : ℕ) → WasAnswered asked (probe.Span start stop) false → stop < start + candidates

-- however many binary digits hold the number of candidates, two for each, and two more, are enough for the probes that
-- were asked and those that a span of this size may need
abbrev pub ProbesSuffice : ℕ → ℕ → ℕ → Type 0
ProbesSuffice candidates count size =
    (digits : ℕ) → candidates ≤ 2 ^ digits → (more : ℕ) × (size ≤ 2 ^ more) × (count + 2 * more ≤ 2 * digits + 2)

-- the answers came to this verdict
abbrev pub IsFound : ℕ → List Asked → Found → Type 0
IsFound candidates asked found.Alone = asked ≡ answered probe.Alone true ∷ []
IsFound candidates asked found.NotSeen =
    ((candidates ≡ 0) × (asked ≡ answered probe.Alone false ∷ []))
    ⊎ ((0 < candidates) × (asked ≡ answered probe.Alone false ∷ answered (probe.Span 0 candidates) false ∷ []))
IsFound candidates asked (found.Cause cause) =
    IsNarrowed candidates asked cause cause (cause + 1) × ProbesSuffice candidates (length asked) 1
IsFound candidates asked found.Several =
    (from : ℕ) × (to : ℕ) × IsNarrowed candidates asked from to to × (from + 2 ≤ to)
    × (answer_to asked (probe.Span from (middle from to)) ≡ Some false)
    × (answer_to asked (probe.Span (middle from to) to) ≡ Some false)
    × ProbesSuffice candidates (length asked) 1

-- the answers came to this step
abbrev pub IsAt : ℕ → List Asked → Step → Type 0
IsAt candidates asked Alone = asked ≡ []
IsAt candidates asked Whole = (0 < candidates) × (asked ≡ answered probe.Alone false ∷ [])
IsAt candidates asked (First from to) =
    IsNarrowed candidates asked from from to × (from + 2 ≤ to) × ProbesSuffice candidates (length asked) (to - from)
IsAt candidates asked (Second from to) =
    IsNarrowed candidates asked from (middle from to) to × (from + 2 ≤ to)
    × (answer_to asked (probe.Span from (middle from to)) ≡ Some false)
    × ProbesSuffice candidates (length asked - 1) (to - from)
IsAt candidates asked (Done found) = IsFound candidates asked found

-- a search of fewer than 2^32 candidates that asked these probes stands at this step
pub record Stands (candidates : ℕ) (asked : List Asked) (step : Step) : Type 0 where
  pub small : candidates < 2 ^ 32
  pub in_order : AskedInOrder asked candidates
  pub at : IsAt candidates asked step

-- In which order the probes of a search are asked (docs/FORMATS.md, "Causes").
use Rattle.std.specs.Prelude.{◌≡◌, ⊤, ℕ, ◌-◌, ◌==◌, nat_lt, Bool, true, false, ◌&&◌, Option, None, Some, is_some, List, [], ◌∷◌, ◌++◌, map, if◌then◌else◌}
use Rattle.std.specs.Option.{option_map_or}
use Rattle.isolation_bisect.specs.declared.probe.Asked.{Asked}
use Rattle.isolation_bisect.specs.declared.probe.Probe.{Probe}
use Rattle.isolation_bisect.specs.declared.probe.Probe.TheVariants.{Alone, Span}
use Rattle.isolation_bisect.specs.Verdicts.{middle}

-- the two are one probe
abbrev pub is_same : Probe → Probe → Bool
is_same Alone Alone = true
is_same Alone (Span from to) = false
is_same (Span from to) Alone = false
is_same (Span from to) (Span other another) = (from == other) && (to == another)

-- how the probe was answered, where it was asked: whether the test failed
abbrev pub answer_to : List Asked → Probe → Option Bool
answer_to [] probe = None
answer_to (one ∷ more) probe = if is_same one.probe probe then Some one.failed else answer_to more probe

-- The last span that failed, where this one was it before, and then the probe was answered so.
abbrev pub later_failed : Option (ℕ × ℕ) → Probe → Bool → Option (ℕ × ℕ)
later_failed last (Span from to) true = Some (from, to)
later_failed last (Span from to) false = last
later_failed last Alone failed = last

-- the last span that failed, where this one was it before these probes
abbrev pub last_failed_behind : Option (ℕ × ℕ) → List Asked → Option (ℕ × ℕ)
last_failed_behind last [] = last
last_failed_behind last (one ∷ more) = last_failed_behind (later_failed last one.probe one.failed) more

-- the last span that failed, if one did
abbrev pub last_failed : List Asked → Option (ℕ × ℕ)
last_failed asked = last_failed_behind None asked

-- the span of all candidates, where there are some and the test passed alone
abbrev pub whole_of : Option Bool → ℕ → List Probe
whole_of (Some false) candidates = if candidates == 0 then [] else Span 0 candidates ∷ []
whole_of (Some true) candidates = []
whole_of None candidates = []

-- the second half of a span, where the first half passed
abbrev pub second_of : Option Bool → ℕ → ℕ → List Probe
second_of (Some false) middle to = Span middle to ∷ []
second_of (Some true) middle to = []
second_of None middle to = []

-- the halves of the last span that failed, where it has at least two
abbrev pub halves_of : List Asked → Option (ℕ × ℕ) → List Probe
halves_of asked None = []
halves_of asked (Some (from, to)) =
    if nat_lt (to - from) 2 then []
    else Span from (middle from to) ∷ second_of (answer_to asked (Span from (middle from to))) (middle from to) to

-- The probes in their order, as far as the answers tell it: the test alone, all candidates, and the halves of the last span
-- that failed.
abbrev pub order_of : List Asked → ℕ → List Probe
order_of asked candidates = Alone ∷ whole_of (answer_to asked Alone) candidates ++ halves_of asked (last_failed asked)

-- the first of the probes that was not yet asked
abbrev pub first_not_asked : List Asked → List Probe → Option Probe
first_not_asked asked [] = None
first_not_asked asked (probe ∷ more) = if is_some (answer_to asked probe) then first_not_asked asked more else Some probe

-- the first probe of the order that was not yet asked
unfoldable pub next_probe : List Asked → ℕ → Option Probe
next_probe asked candidates = first_not_asked asked (order_of asked candidates)

-- each of the later probes was the next one behind those before it
abbrev pub FollowInOrder : ℕ → List Asked → List Asked → Type 0
FollowInOrder candidates before [] = ⊤
FollowInOrder candidates before (one ∷ more) =
    (next_probe before candidates ≡ Some one.probe) × FollowInOrder candidates (before ++ one ∷ []) more

-- each of the probes was the next one behind those before it
abbrev pub AskedInOrder : List Asked → ℕ → Type 0
AskedInOrder asked candidates = FollowInOrder candidates [] asked

-- the probes of a search that goes on behind these and is given these answers, one after another, as far as it asks
abbrev pub asked_behind : ℕ → List Asked → List Bool → List Asked
asked_behind candidates before [] = before
asked_behind candidates before (failed ∷ more) =
    option_map_or (λ probe. asked_behind candidates (before ++ record { probe = probe; failed = failed } ∷ []) more) (next_probe before candidates) before

-- the probes of a search that is given these answers
abbrev pub asked_of : ℕ → List Bool → List Asked
asked_of candidates answers = asked_behind candidates [] answers

-- the answers to the probes
abbrev pub answers_of : List Asked → List Bool
answers_of asked = map (λ one. one.failed) asked

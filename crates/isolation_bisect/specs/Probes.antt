-- What a probe runs (docs/FORMATS.md, "Causes").
use Rattle.std.specs.Prelude.{⊤, ℕ, ◌-◌, ◌<◌, ◌≤◌, List, [], ◌∷◌, ◌++◌, take, drop}
use Rattle.isolation_bisect.specs.declared.probe.Probe.{Probe}
use Rattle.isolation_bisect.specs.declared.probe.Probe.TheVariants.{Alone, Span}

-- a span is not empty, and lies within so many candidates
abbrev pub IsWithin : ℕ → Probe → Type 0
IsWithin candidates Alone = ⊤
IsWithin candidates (Span from to) = (from < to) × (to ≤ candidates)

-- the candidates that the probe runs before the test, in their order: none, or those of the span
abbrev pub candidates_run : List (List ℕ) → Probe → List (List ℕ)
candidates_run candidates Alone = []
candidates_run candidates (Span from to) = take (to - from) (drop from candidates)

-- all ids that the probe runs, in order: these candidates, and then the test
abbrev pub probe_ids : List (List ℕ) → Probe → List ℕ → List (List ℕ)
probe_ids candidates probe test = candidates_run candidates probe ++ test ∷ []

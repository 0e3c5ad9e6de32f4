-- Good patterns, and bad ones.
use Rattle.std.proofs.Common.{◌≡◌, ◌⊎◌, inl, inr, ℕ, ◌<◌, ◌≤◌, Option, None, Some, IsSomeAnd, List, arith}
use Rattle.regex_syntax.specs.Grammar.{Names}
use Rattle.regex_syntax.specs.Brackets.{Nested}
use Rattle.regex.specs.Patterns.{Re, default_config}
use Rattle.partition_times.specs.Patterns.{reading, IsPattern, IsBadPattern}

not_both : (o : Option (Nested Re × Names)) → IsSomeAnd o (λ (re, _). re.depth ≤ default_config.nest_limit) → (o ≡ None) ⊎ IsSomeAnd o (λ (re, _). default_config.nest_limit < re.depth) → ⊥
not_both None good bad = good
not_both (Some found) good (inl none) = cc
not_both (Some found) good (inr deep) = omega (arith, good, deep)

-- no pattern is good and bad
pub good_not_bad : (pattern : List ℕ) → IsPattern pattern → IsBadPattern pattern → ⊥
good_not_bad pattern good bad = not_both (reading pattern) good bad

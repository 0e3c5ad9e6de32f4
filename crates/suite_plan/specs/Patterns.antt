-- The patterns of a run and its `group_regex`, and what is told of a bad one (docs/FORMATS.md, "Patterns" and "Groups").
use Rattle.std.specs.Prelude.{◌≡◌, ◌⊎◌, ⊤, ℕ, All, List, ◌++◌, Option, IfSome, IsSomeAnd, Result, Ok, Err}
use Rattle.partition_times.specs.Patterns.{IsPattern, IsBadPattern}
pub use Rattle.partition_times.specs.Patterns.{IsFirstBadText}
use Rattle.suite_plan.specs.declared.patterns.Compiled.{Compiled}
use Rattle.suite_plan.specs.declared.patterns.PatternRefusal.{PatternRefusal}
use Rattle.suite_plan.specs.declared.patterns.PatternRefusal.TheVariants.{Bad, NoMemory}

-- these are the patterns of both kinds and the regex of the groups, and all of them are good
pub record AreCompiled (including excluding : List (List ℕ)) (regex : Option (List ℕ)) (compiled : Compiled) : Type 0 where
  pub picks : compiled.picks ≡ record { including = including; excluding = excluding }
  pub groups : compiled.groups ≡ regex
  pub good : All IsPattern (including ++ excluding)
  pub good_regex : IfSome regex IsPattern

-- the text is the regex of the groups, and is bad
abbrev pub IsBadRegex : Option (List ℕ) → List ℕ → Type 0
IsBadRegex regex text = IsSomeAnd regex (λ pattern. (text ≡ pattern) × IsBadPattern pattern)

-- the patterns are good, or the first bad one is named, or memory is wanting
abbrev pub ChecksPatterns : {A : Type 0} → List (List ℕ) → Result A PatternRefusal → Type 0
ChecksPatterns patterns (Ok value) = All IsPattern patterns
ChecksPatterns patterns (Err (Bad given)) = IsFirstBadText patterns given.now
ChecksPatterns patterns (Err NoMemory) = ⊤

-- the regex is good or not there, or it is named, or memory is wanting
abbrev pub ChecksRegex : {A : Type 0} → Option (List ℕ) → Result A PatternRefusal → Type 0
ChecksRegex regex (Ok value) = IfSome regex IsPattern
ChecksRegex regex (Err (Bad given)) = IsBadRegex regex given.now
ChecksRegex regex (Err NoMemory) = ⊤

-- All are compiled; or the first bad pattern is named, those that exclude behind those that include, and the regex only where
-- every pattern is good; or memory is wanting.
abbrev pub Compiles : (including excluding : List (List ℕ)) → Option (List ℕ) → Result Compiled PatternRefusal → Type 0
Compiles including excluding regex (Ok compiled) = AreCompiled including excluding regex compiled
Compiles including excluding regex (Err (Bad given)) = IsFirstBadText (including ++ excluding) given.now ⊎ (All IsPattern (including ++ excluding) × IsBadRegex regex given.now)
Compiles including excluding regex (Err NoMemory) = ⊤

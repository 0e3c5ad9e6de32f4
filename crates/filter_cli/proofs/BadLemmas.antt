-- Good patterns, and bad ones.
use Rattle.std.proofs.Common.{◌≡◌, ◌⊎◌, inl, inr, ℕ, ◌<◌, ◌≤◌, All, Option, None, Some, IsSomeAnd, List, [], ◌∙◌, sym, subst, arith}
use Rattle.regex_syntax.specs.Grammar.{Names}
use Rattle.regex_syntax.specs.Brackets.{Nested}
use Rattle.regex.specs.Patterns.{Re, default_config}
use Rattle.partition_times.specs.Patterns.{reading, IsPattern, IsBadPattern}
use Rattle.filter_cli.specs.Patterns.{IsFirstBadText}
use Rattle.filter_cli.specs.Words.{asked_by_words}
use Rattle.filter_cli.specs.Streams.{AsksFor, HasBadPattern, patterns_of}
use Rattle.filter_cli.specs.declared.request.Asked.{Asked}

not_both : (o : Option (Nested Re × Names)) → IsSomeAnd o (λ (re, _). re.depth ≤ default_config.nest_limit) → (o ≡ None) ⊎ IsSomeAnd o (λ (re, _). default_config.nest_limit < re.depth) → ⊥
not_both None good bad = good
not_both (Some found) good (inl none) = cc
not_both (Some found) good (inr deep) = omega (arith, good, deep)

-- no pattern is good and bad
pub good_not_bad : (pattern : List ℕ) → IsPattern pattern → IsBadPattern pattern → ⊥
good_not_bad pattern good bad = not_both (reading pattern) good bad

pub none_bad : (patterns : List (List ℕ)) (text : List ℕ) → All IsPattern patterns → IsFirstBadText patterns text → ⊥
none_bad patterns text good bad = good_not_bad _ (good bad.index [] bad.first.in_range) bad.first.bad

pub same_asked : (words : List (List ℕ)) (one other : Asked) → asked_by_words words ≡ Some one → asked_by_words words ≡ Some other → one ≡ other
same_asked words one other is also = let both : Some one ≡ Some other = sym is ∙ also in cc

-- words whose patterns are good have no bad one
pub asks_no_bad : (words : List (List ℕ)) (asked : Asked) → AsksFor words asked → HasBadPattern words → ⊥
asks_no_bad words asked asks bad =
    none_bad (patterns_of asked) bad.text asks.good (subst (λ (a : Asked). IsFirstBadText (patterns_of a) bad.text) (same_asked words bad.asked asked bad.named asks.named) bad.bad)

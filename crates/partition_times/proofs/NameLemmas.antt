-- The names of groups.
use Rattle.std.proofs.Common.{◌≡◌, ◌<◌, ◌++◌, ◌||◌, ap₂, get_or, length, ℕ, zero, suc, ◌+◌, ◌-◌, ◌==◌, Bool, true, false, List, [], ◌∷◌, take, Option, Some, option_map, refl, sym, ap, ◌∙◌, arith}
use Rattle.std.specs.Prelude.{slice_range, IfSome, if◌then◌else◌}
use Rattle.std.specs.Str.{bytes_eq}
use Rattle.std.specs.List.{list_any}
use Rattle.std.proofs.lemmas.List.{append-nil}
use Rattle.std.proofs.lemmas.List.Elements.{filter_more}
use Rattle.std.proofs.lemmas.List.Folds.{list_any_more}
use Rattle.std.proofs.Math.Bool.{or_comm}
use Rattle.std.proofs.lemmas.Bool.Decides.{nat_tests}
use Rattle.regex.specs.Patterns.{Re}
use Rattle.regex.specs.Strings.{regex_source, regex_pattern}
use Rattle.regex.specs.declared.string.regex.Regex.{Regex}
use Rattle.partition_times.specs.Compiled.{IsCompiled}
use Rattle.partition_times.specs.Gathered.{SearchesFor, IdsByName, ids_under, has_group, AreGathered}
use Rattle.partition_times.specs.Names.{named_by, members}
use Rattle.partition_times.proofs.PatternLemmas.{compiled_searches}

-- a match at the front that is not empty
pub named_at_front : (id : List ℕ) (found : Option (ℕ × ℕ)) (start end : ℕ) → found ≡ Some (start, end) → start ≡ 0 → (start == end) ≡ false → slice_range id start end ≡ named_by found id
named_at_front id found zero zero is front some = absurd (grind (arith, nat_tests))
named_at_front id found zero (suc end) is front some = let whole : suc end - 0 ≡ suc end = omega arith in rw (is, whole) refl
named_at_front id found (suc start) end is front some = absurd (omega arith)

-- the compiled pattern is searched for
pub regex_searches : (groups : Option (List ℕ)) (kept : Option Regex) (regex : Regex) (re : Re) → kept ≡ Some regex → option_map regex_source kept ≡ groups → IfSome kept (λ r. IsCompiled (regex_source r) r) → re ≡ regex_pattern regex → SearchesFor groups (Some re)
regex_searches groups kept regex re is view compiled same =
    rw (← view, is, same) (compiled_searches (regex_source regex) regex (rw is at compiled))

pushed_if : (b : Bool) (ids : List (List ℕ)) (id : List ℕ) → (if b then ids ++ id ∷ [] else ids) ≡ ids ++ (if b then id ∷ [] else [])
pushed_if true ids id = refl
pushed_if false ids id = sym (append-nil ids)

-- one more id, under its name
pub gathered_more : (name_of : List ℕ → List ℕ) (ids : List (List ℕ)) (index : ℕ) (id name : List ℕ) (old new : IdsByName) → index < length ids → id ≡ get_or ids index id → name ≡ name_of id → ((q : List ℕ) → ids_under new q ≡ (if bytes_eq q name then ids_under old q ++ id ∷ [] else ids_under old q)) → ((q : List ℕ) → has_group new q ≡ (bytes_eq q name || has_group old q)) → AreGathered name_of (take index ids) old → AreGathered name_of (take (index + 1) ids) new
gathered_more name_of ids index id name old new below here named put has gathered =
    record {
      ids_of = λ q. put q ∙ ap₂ (λ n list. if bytes_eq q n then list ++ id ∷ [] else list) named (gathered.ids_of q)
          ∙ pushed_if (bytes_eq q (name_of id)) (members name_of (take index ids) q) id
          ∙ ap (λ x. members name_of (take index ids) q ++ (if bytes_eq q (name_of x) then x ∷ [] else [])) here
          ∙ sym (filter_more (λ x. bytes_eq q (name_of x)) ids index id below);
      names = λ q. has q ∙ ap₂ (λ n b. bytes_eq q n || b) (named ∙ ap name_of here) (gathered.names q)
          ∙ or_comm (bytes_eq q (name_of (get_or ids index id))) (list_any (λ x. bytes_eq q (name_of x)) (take index ids))
          ∙ sym (list_any_more (λ x. bytes_eq q (name_of x)) ids index id below);
    }

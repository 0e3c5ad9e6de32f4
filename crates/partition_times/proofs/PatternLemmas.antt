-- What `regex` says of a pattern, in the words of this crate.
use Rattle.std.proofs.Common.{◌≡◌, ◌≢◌, ◌⊎◌, ℕ, ◌+◌, ◌<◌, ◌≤◌, List, [], ◌∷◌, true, subst, map, take, length, get_or, Option, None, Some, IsSomeAnd, IfSome, is_some, option_map, refl, sym, ap, ◌∙◌, inl, inr, ap₂, suc, ◌||◌, ◌++◌, ◌==◌, Bool, false, arith}
use Rattle.std.proofs.lemmas.List.{map-append, take_more, get_or-map, length-map}
use Rattle.std.proofs.lemmas.Bool.Decides.{nat_tests}
use Rattle.std.proofs.lemmas.List.Folds.{list_any_at, list_any_more}
use Rattle.std.specs.List.{AllByRecursion, list_any, filter}
use Rattle.regex_syntax.specs.Grammar.{Names, group_count}
use Rattle.regex_syntax.specs.Brackets.{Nested}
use Rattle.regex_syntax.specs.Verdict.{Reads, Refuses}
use Rattle.regex_syntax.specs.declared.error.ErrorKind.{ErrorKind}
use Rattle.regex_syntax.specs.declared.error.ErrorKind.TheVariants.{OutOfMemory}
use Rattle.regex.specs.Patterns.{Re, Match, default_config, find_str, span, SameCaptures}
use Rattle.regex.specs.Strings.{regex_source, regex_pattern}
use Rattle.regex.specs.Sources.{IsRefusal}
use Rattle.regex.specs.Failures.{IsRightKind}
use Rattle.regex_syntax.specs.declared.error.Error as parser
use Rattle.regex.specs.declared.error.Error.{Error}
use Rattle.regex.specs.declared.error.Error.TheVariants.{Syntax}
use Rattle.regex.specs.declared.string.regex.Regex.{Regex}
use Rattle.regex.proofs.ForCallers.{span_alike}
use Rattle.partition_times.specs.Patterns.{reading, IsPattern, IsBadPattern, match_of, is_found, picked_ids}
use Rattle.partition_times.specs.Compiled.{IsCompiled, FindsSame, AreSearchers, is_picked}

too_deep : (o : Option (Nested Re × Names)) → IfSome o (λ (re, _). default_config.nest_limit < re.depth) → (o ≡ None) ⊎ IsSomeAnd o (λ (re, _). default_config.nest_limit < re.depth)
too_deep None deep = inl refl
too_deep (Some found) deep = inr deep

-- what the parser refuses is bad, where memory is not the reason
pub bad_from_refusal : (pattern : List ℕ) (kind : ErrorKind) → Refuses default_config pattern kind → kind ≢ OutOfMemory → IsBadPattern pattern
unfolding Refuses
bad_from_refusal pattern kind (inl memory) other = absurd (other memory)
bad_from_refusal pattern kind (inr (inl none)) other = inl none
bad_from_refusal pattern kind (inr (inr deep)) other = too_deep (reading pattern) deep.1

-- the same of an error of `Regex::new`
pub bad_from_error : (source pattern : List ℕ) (error : Error) (e : parser.Error) → source ≡ pattern → error ≡ Syntax e → IsRefusal default_config source error → IsRightKind default_config source error → IsBadPattern pattern
bad_from_error source pattern error e same is refusal kind =
    subst IsBadPattern same (bad_from_refusal source e.kind (refusal e is) (subst (IsRightKind default_config source) is kind))

module _ (a : Re) (names : Names) where
  good : (o : Option (Nested Re × Names)) → IsSomeAnd o (λ (re, found). (re.depth ≤ default_config.nest_limit) × SameCaptures a re.value × (names ≡ found) × (group_count a ≤ length names)) → IsSomeAnd o (λ (re, _). re.depth ≤ default_config.nest_limit)
  good None reads = reads
  good (Some found) reads = reads.0

  same_match : (o : Option (Nested Re × Names)) → IsSomeAnd o (λ (re, found). (re.depth ≤ default_config.nest_limit) × SameCaptures a re.value × (names ≡ found) × (group_count a ≤ length names)) → (id : List ℕ) → ((k : ℕ) → get_or id k 0 < 256) → option_map span (find_str a id 0) ≡ match_of o id
  same_match None reads id bytes = absurd reads
  same_match (Some found) reads id bytes = span_alike reads.1 id bytes true 0

-- what was compiled is a pattern
pub pattern_of_compiled : (pattern : List ℕ) (regex : Regex) → IsCompiled pattern regex → IsPattern pattern
unfolding Reads
pattern_of_compiled pattern regex compiled = good _ _ (reading pattern) (rw (compiled.source, compiled.config) at compiled.read)

-- and is searched for by what it means
pub compiled_searches : (pattern : List ℕ) (regex : Regex) → IsCompiled pattern regex → FindsSame pattern (regex_pattern regex)
unfolding Reads
compiled_searches pattern regex compiled = record { same = same_match _ _ (reading pattern) (rw (compiled.source, compiled.config) at compiled.read) }

some_alike : (b : Option (ℕ × ℕ)) (o : Option Match) → option_map span o ≡ b → is_some o ≡ is_some b
some_alike b None same = ap is_some same
some_alike b (Some m) same = ap is_some same

-- each of some compiled patterns is searched for
pub all_search : (regexes : List Regex) → AllByRecursion (λ regex. IsCompiled (regex_source regex) regex) regexes → AreSearchers (map regex_source regexes) (map regex_pattern regexes)
all_search [] compiled = record { count = refl; same = λ id bytes. refl }
all_search (regex ∷ regexes) compiled = record {
  count = ap suc (all_search regexes compiled.1).count;
  same = λ id bytes. ap₂ ◌||◌ (some_alike _ _ ((compiled_searches (regex_source regex) regex compiled.0).same id bytes)) ((all_search regexes compiled.1).same id bytes);
}

-- one more text, compiled
pub one_more_source : (texts : List (List ℕ)) (index : ℕ) (old new : List Regex) (regex : Regex) (text : List ℕ) → new ≡ old ++ regex ∷ [] → map regex_source old ≡ take index texts → IsCompiled text regex → text ≡ get_or texts index text → index < length texts → map regex_source new ≡ take (index + 1) texts
one_more_source texts index old new regex text pushed so_far compiled here below =
    ap (map regex_source) pushed ∙ map-append regex_source old (regex ∷ []) ∙ ap₂ ◌++◌ so_far (ap (λ t. t ∷ []) (compiled.source ∙ here)) ∙ sym (take_more texts index text below)

-- it keeps its own text
pub with_own_text : (text : List ℕ) (regex : Regex) → IsCompiled text regex → IsCompiled (regex_source regex) regex
with_own_text text regex compiled = record { source = refl; config = compiled.config; read = compiled.read }

-- the search through some of those that search
module _ {M : Type 0} (pattern_of : M → Re) (all : List M) (id : List ℕ) where
  -- one of them finds a match
  pub found_at : (now : List M) (patterns : List (List ℕ)) (index : ℕ) (matcher : M) → ((k : ℕ) → get_or id k 0 < 256) → map pattern_of now ≡ map pattern_of all → index < length now → matcher ≡ get_or now index matcher → is_some (find_str (pattern_of matcher) id 0) ≡ true → AreSearchers patterns (map pattern_of all) → true ≡ is_found patterns id
  found_at now patterns index matcher bytes same below here found searchers =
      let re : get_or (map pattern_of now) index (pattern_of matcher) ≡ pattern_of matcher = get_or-map pattern_of now index matcher (pattern_of matcher) below ∙ ap pattern_of (sym here) in
      sym (list_any_at (λ re. is_some (find_str re id 0)) (map pattern_of now) index (pattern_of matcher) (rw (length-map now pattern_of) below) (rw re found)) ∙ ap (list_any (λ re. is_some (find_str re id 0))) same ∙ searchers.same id bytes

  -- the next of them finds none
  pub none_more : (now : List M) (index : ℕ) (matcher : M) → map pattern_of now ≡ map pattern_of all → index < length now → matcher ≡ get_or now index matcher → is_some (find_str (pattern_of matcher) id 0) ≡ false → list_any (λ re. is_some (find_str re id 0)) (take index (map pattern_of all)) ≡ false → list_any (λ re. is_some (find_str re id 0)) (take (index + 1) (map pattern_of all)) ≡ false
  none_more now index matcher same below here found none =
      let re : get_or (map pattern_of now) index (pattern_of matcher) ≡ pattern_of matcher = get_or-map pattern_of now index matcher (pattern_of matcher) below ∙ ap pattern_of (sym here) in
      rw (← same) (list_any_more (λ re. is_some (find_str re id 0)) (map pattern_of now) index (pattern_of matcher) (rw (length-map now pattern_of) below) ∙ rw (re, found, same, none) refl)

-- what is picked one by one is what is picked
all_pass : (ids : List (List ℕ)) → filter (λ id. true) ids ≡ ids
all_pass [] = refl
all_pass (id ∷ ids) = ap (λ rest. id ∷ rest) (all_pass ids)

pub all_picked : (patterns ids : List (List ℕ)) → filter (is_picked patterns) ids ≡ picked_ids patterns ids
all_picked [] ids = all_pass ids
all_picked (pattern ∷ patterns) ids = refl

pub picked_alike : (patterns : List (List ℕ)) (id : List ℕ) (count : ℕ) (found : Bool) → count ≡ length patterns → found ≡ is_found patterns id → (count == 0 || found) ≡ is_picked patterns id
picked_alike [] id count found same is = rw same refl
picked_alike (pattern ∷ patterns) id count found same is =
    let some : (suc (length patterns) == 0) ≡ false = grind (arith, nat_tests) in
    rw (same, is, some) refl

-- The words of a line, one after another, and the tags behind them.
use Rattle.std.proofs.Common.{◌≡◌, ◌<◌, ◌+◌, ℕ, Bool, true, false, cond, Option, Some, None, List, [], ◌∷◌, ◌++◌, length, take, drop, refl, sym, ap, subst, ◌∙◌, arith}
use Rattle.std.specs.List.{filter, slice_split, position_or_len, before_first, after_first, All}
use Rattle.std.proofs.lemmas.Bool.{cond_both, cond-true}
use Rattle.std.proofs.lemmas.List.Splits.{slice_split_first, slice_split_none}
use Rattle.std.proofs.lemmas.List.Sums.{fails_before_first}
use Rattle.std.proofs.lemmas.List.Elements.{filter-append}
use Rattle.sub_number.specs.Lines.{has_bytes}
use Rattle.v1_bridge.specs.TagWords.{is_space_or_tab, spaced_words, is_name, tag_in, tags_after_word, tags_after_words}

pub words_first : (text : List ℕ) (at : ℕ) → at ≡ position_or_len is_space_or_tab text → at < length text
    → spaced_words text ≡ filter has_bytes (take at text ∷ []) ++ spaced_words (drop (at + 1) text)
words_first text at is in_range =
    let front : position_or_len is_space_or_tab text < length text = subst (λ n. n < length text) is in_range in
    let split : slice_split is_space_or_tab text ≡ before_first is_space_or_tab text ∷ slice_split is_space_or_tab (after_first is_space_or_tab text) = slice_split_first is_space_or_tab text 0 front in
    let cut : slice_split is_space_or_tab text ≡ take at text ∷ slice_split is_space_or_tab (drop (at + 1) text) =
    split ∙ ap (λ n. take n text ∷ slice_split is_space_or_tab (drop (n + 1) text)) (sym is) in
    ap (filter has_bytes) cut ∙ filter-append has_bytes (take at text ∷ []) (slice_split is_space_or_tab (drop (at + 1) text))

pub words_last : (text : List ℕ) → position_or_len is_space_or_tab text ≡ length text → spaced_words text ≡ filter has_bytes (text ∷ [])
words_last text none =
    let gaps : All (λ b. is_space_or_tab b ≡ false) text = λ k d below. fails_before_first is_space_or_tab text k d (omega arith) in
    ap (filter has_bytes) (slice_split_none is_space_or_tab text gaps)

pub some_same : {X : Type 0} (x y : X) → ◌≡◌ {A = Option X} (Some x) (Some y) → x ≡ y
some_same x y is = cc

pub never : {X : Type 0} (x : X) → ◌≡◌ {A = Option X} (Some x) None → ⊥
never x is = cc

pub part : {X : Type 0} (b : Bool) (o : Option X) (t : X) → cond b o None ≡ Some t → (b ≡ true) × (o ≡ Some t)
part true o t is = (refl, is)
part false o t is = absurd (never t (sym is))

goes_on : (names : List (List ℕ)) (xs ys : List (List ℕ)) (t : List (List ℕ)) → tags_after_words names xs ≡ Some t → tags_after_words names (xs ++ ys) ≡ tags_after_words t ys
goes_on names [] ys t is = ap (λ (l : List (List ℕ)). tags_after_words l ys) (some_same names t is)
goes_on names (w ∷ xs) ys t is =
    let p = part (is_name (tag_in w)) (tags_after_words (tags_after_word names w) xs) t is in
    cond-true (is_name (tag_in w)) (tags_after_words (tags_after_word names w) (xs ++ ys)) None p.0 ∙ goes_on (tags_after_word names w) xs ys t p.1

stops : (names : List (List ℕ)) (xs ys : List (List ℕ)) → tags_after_words names xs ≡ None → tags_after_words names (xs ++ ys) ≡ None
stops names [] ys is = absurd (never names is)
stops names (w ∷ xs) ys is =
    cond_both (is_name (tag_in w)) (tags_after_words (tags_after_word names w) (xs ++ ys)) None (λ (r : Option (List (List ℕ))). r ≡ None)
    (λ t. stops (tags_after_word names w) xs ys (sym (cond-true (is_name (tag_in w)) (tags_after_words (tags_after_word names w) xs) None t) ∙ is))
    (λ f. refl)

module _ (names : List (List ℕ)) (text : List ℕ) (at : ℕ) (is : at ≡ position_or_len is_space_or_tab text) (in_range : at < length text) where
  pub word_more : (t : List (List ℕ)) → Some t ≡ tags_after_words names (filter has_bytes (take at text ∷ [])) → tags_after_words names (spaced_words text) ≡ tags_after_words t (spaced_words (drop (at + 1) text))
  word_more t one = ap (tags_after_words names) (words_first text at is in_range) ∙ goes_on names (filter has_bytes (take at text ∷ [])) (spaced_words (drop (at + 1) text)) t (sym one)

  pub word_stops : None ≡ tags_after_words names (filter has_bytes (take at text ∷ [])) → None ≡ tags_after_words names (spaced_words text)
  word_stops one = sym (ap (tags_after_words names) (words_first text at is in_range) ∙ stops names (filter has_bytes (take at text ∷ [])) (spaced_words (drop (at + 1) text)) (sym one))

-- what an answer says of a set
pub told_none : (told : Bool) (names : List (List ℕ)) (o : Option (List (List ℕ))) → told ≡ false → cond told (Some names) None ≡ o → None ≡ o
told_none true names o not is = cc
told_none false names o not is = is

pub told_some : (told : Bool) (names : List (List ℕ)) (o : Option (List (List ℕ))) → told ≡ true → cond told (Some names) None ≡ o → Some names ≡ o
told_some true names o yes_told is = is
told_some false names o yes_told is = cc

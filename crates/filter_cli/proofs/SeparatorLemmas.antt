-- Words in front of a separator, and behind it.
use Rattle.std.proofs.Common.{◌≡◌, ℕ, zero, suc, ◌+◌, ◌-◌, ◌≤◌, Bool, true, false, not, cond, Option, None, Some, List, [], ◌∷◌, map, take, drop, length, String, string_bytes, refl, sym, ap, ◌∙◌, arith}
use Rattle.std.specs.declared.alloc.Global.{Global}
use Rattle.std.specs.List.{before_first, after_first, position, position_or_len}
use Rattle.std.proofs.lemmas.Bool.{ltb-false}
use Rattle.std.proofs.lemmas.List.{drop-map, drop_all, take_all, length-map, length-drop}
use Rattle.command_words.specs.Items.{texts}
use Rattle.filter_cli.specs.Words.{is_separator}

-- of a word as the code keeps it
abbrev pub parts : String Global → Bool
parts word = is_separator (string_bytes word)

place_map : {A B : Type 0} → (p : B → Bool) (f : A → B) (xs : List A) → position_or_len p (map f xs) ≡ position_or_len (λ x. p (f x)) xs
place_map p f [] = refl
place_map p f (x ∷ xs) = ap (λ (n : ℕ). cond (not (p (f x))) (1 + n) 0) (place_map p f xs)

take_map : {A B : Type 0} → (f : A → B) (n : ℕ) (xs : List A) → map f (take n xs) ≡ take n (map f xs)
take_map f zero xs = refl
take_map f (suc n) [] = refl
take_map f (suc n) (x ∷ xs) = ap (λ l. f x ∷ l) (take_map f n xs)

-- the place of the separator, which the code found, or the end
front_at : (words : List (String Global)) (n : ℕ) → n ≡ position_or_len parts words → texts (take n words) ≡ before_first is_separator (texts words)
front_at words n is = take_map string_bytes n words ∙ ap (λ (k : ℕ). take k (texts words)) (is ∙ sym (place_map is_separator string_bytes words))

behind_at : (words : List (String Global)) (n : ℕ) → n ≡ position_or_len parts words → texts (drop (n + 1) words) ≡ after_first is_separator (texts words)
behind_at words n is = sym (drop-map string_bytes (n + 1) words) ∙ ap (λ (k : ℕ). drop (k + 1) (texts words)) (is ∙ sym (place_map is_separator string_bytes words))

some_at : (b : Bool) (n place : ℕ) → cond b (Some n) None ≡ Some place → place ≡ n
some_at true n place is = cc
some_at false n place is = absurd (cc)

none_at : (b : Bool) (n : ℕ) → cond b (Some n) None ≡ None → b ≡ false
none_at true n is = absurd (cc)
none_at false n is = refl

found_at : (words : List (String Global)) (found : Option ℕ) (place : ℕ) → found ≡ position parts words → found ≡ Some place → place ≡ position_or_len parts words
found_at words found place is some = some_at _ _ place (sym is ∙ some)

pub front_some : (words : List (String Global)) (found : Option ℕ) (place : ℕ) → found ≡ position parts words → found ≡ Some place → texts (take place words) ≡ before_first is_separator (texts words)
front_some words found place is some = front_at words place (found_at words found place is some)

rest_at : (words : List (String Global)) (n : ℕ) → take (length words - n) (drop n words) ≡ drop n words
rest_at words n = take_all (length words - n) (drop n words) (omega (arith, length-drop n words))

pub behind_some : (words : List (String Global)) (found : Option ℕ) (place : ℕ) → found ≡ position parts words → found ≡ Some place → texts (take (length words - (place + 1)) (drop (place + 1) words)) ≡ after_first is_separator (texts words)
behind_some words found place is some = ap texts (rest_at words (place + 1)) ∙ behind_at words place (found_at words found place is some)

-- there is none, and so its place is behind all words
all_before : (words : List (String Global)) (found : Option ℕ) → found ≡ position parts words → found ≡ None → length words ≤ position_or_len parts words
all_before words found is none =
    ltb-false (position_or_len parts words) (length words) (none_at _ (position_or_len parts words) (sym is ∙ none))

pub front_none : (words : List (String Global)) (found : Option ℕ) → found ≡ position parts words → found ≡ None → texts words ≡ before_first is_separator (texts words)
front_none words found is none =
    ap texts (sym (take_all (position_or_len parts words) words (all_before words found is none))) ∙ front_at words (position_or_len parts words) refl

pub behind_none : (words : List (String Global)) (found : Option ℕ) → found ≡ position parts words → found ≡ None → ◌≡◌ {A = List (List ℕ)} [] (after_first is_separator (texts words))
behind_none words found is none =
    let far = all_before words found is none in
    ap texts (sym (drop_all (position_or_len parts words + 1) words (omega (arith, far)))) ∙ behind_at words (position_or_len parts words) refl

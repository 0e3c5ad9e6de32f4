-- Items, word by word.
use Rattle.std.proofs.Common.{◌≡◌, ℕ, Bool, ◌||◌, map, true, false, cond, Option, None, Some, option_map, List, [], ◌∷◌, ◌++◌, refl, sym, ap, ◌∙◌, append_assoc, append-nil, is_some, Bor}
use Rattle.std.specs.List.{list_any}
use Rattle.command_words.specs.declared.table.Kind.{Kind}
use Rattle.command_words.specs.Items.{Item, valued, refused, is_item, asks, is_text, meaning_of, with_rest, items_behind}
use Rattle.command_words.specs.Code.{meaning_behind}

-- what the words are, behind these items
abbrev pub behind : (List ℕ → Option Kind) → List Item → Option (List ℕ) → List (List ℕ) → Option (List Item)
behind kinds done asked words = option_map (λ rest. done ++ rest) (items_behind kinds asked words)

front_again : (done : List Item) (item : Item) (rest : Option (List Item)) → option_map (λ rest. done ++ rest) (option_map (λ items. item ∷ items) rest) ≡ option_map (λ rest. (done ++ item ∷ []) ++ rest) rest
front_again done item None = refl
front_again done item (Some rest) = ap Some (sym (append_assoc done (item ∷ []) rest))

pub one_item : (kinds : List ℕ → Option Kind) (done : List Item) (asked : Option (List ℕ)) (word : List ℕ) (words : List (List ℕ)) (item : Item) → is_text word ≡ true → meaning_behind kinds asked word ≡ is_item item → behind kinds done asked (word ∷ words) ≡ behind kinds (done ++ item ∷ []) None words
one_item kinds done None word words item text means =
    ap (λ b. option_map (λ rest. done ++ rest) (cond b (with_rest (meaning_of kinds word) (λ key. items_behind kinds (Some key) words) (items_behind kinds None words)) None)) text
    ∙ ap (λ m. option_map (λ rest. done ++ rest) (with_rest m (λ key. items_behind kinds (Some key) words) (items_behind kinds None words))) means
    ∙ front_again done item (items_behind kinds None words)
one_item kinds done (Some key) word words item text means =
    let same : valued key word ≡ item = cc in
    ap (λ b. option_map (λ rest. done ++ rest) (cond b (option_map (λ items. valued key word ∷ items) (items_behind kinds None words)) None)) text
    ∙ front_again done (valued key word) (items_behind kinds None words)
    ∙ ap (λ i. option_map (λ rest. (done ++ i ∷ []) ++ rest) (items_behind kinds None words)) same

pub one_asked : (kinds : List ℕ → Option Kind) (done : List Item) (asked : Option (List ℕ)) (word : List ℕ) (words : List (List ℕ)) (key : List ℕ) → is_text word ≡ true → meaning_behind kinds asked word ≡ asks key → behind kinds done asked (word ∷ words) ≡ behind kinds done (Some key) words
one_asked kinds done None word words key text means =
    ap (λ b. option_map (λ rest. done ++ rest) (cond b (with_rest (meaning_of kinds word) (λ key. items_behind kinds (Some key) words) (items_behind kinds None words)) None)) text
    ∙ ap (λ m. option_map (λ rest. done ++ rest) (with_rest m (λ key. items_behind kinds (Some key) words) (items_behind kinds None words))) means
one_asked kinds done (Some other) word words key text means = absurd (cc)

pub no_text : (kinds : List ℕ → Option Kind) (done : List Item) (asked : Option (List ℕ)) (word : List ℕ) (words : List (List ℕ)) → is_text word ≡ false → behind kinds done asked (word ∷ words) ≡ None
no_text kinds done None word words text = ap (λ b. option_map (λ rest. done ++ rest) (cond b (with_rest (meaning_of kinds word) (λ key. items_behind kinds (Some key) words) (items_behind kinds None words)) None)) text
no_text kinds done (Some key) word words text = ap (λ b. option_map (λ rest. done ++ rest) (cond b (option_map (λ items. valued key word ∷ items) (items_behind kinds None words)) None)) text

pub is_refused : (kinds : List ℕ → Option Kind) (done : List Item) (asked : Option (List ℕ)) (word : List ℕ) (words : List (List ℕ)) → is_text word ≡ true → meaning_behind kinds asked word ≡ refused → behind kinds done asked (word ∷ words) ≡ None
is_refused kinds done None word words text means =
    ap (λ b. option_map (λ rest. done ++ rest) (cond b (with_rest (meaning_of kinds word) (λ key. items_behind kinds (Some key) words) (items_behind kinds None words)) None)) text
    ∙ ap (λ m. option_map (λ rest. done ++ rest) (with_rest m (λ key. items_behind kinds (Some key) words) (items_behind kinds None words))) means
is_refused kinds done (Some key) word words text means = absurd (cc)

module _ (kinds : List ℕ → Option Kind) (done : List Item) where
  -- a value is missing at the end
  pub all_asked : (asked : Option (Bor (List ℕ))) → is_some asked ≡ true → behind kinds done (option_map (λ name. name.now) asked) [] ≡ None
  all_asked None some = absurd (cc)
  all_asked (Some name) some = refl

  pub all_read : (asked : Option (Bor (List ℕ))) → is_some asked ≡ false → behind kinds done (option_map (λ name. name.now) asked) [] ≡ Some done
  all_read None none = ap Some (append-nil done)
  all_read (Some name) none = absurd (cc)

-- one of what these stand for is so, where one of these is
pub any_map : {A B : Type 0} (p : B → Bool) (f : A → B) (xs : List A) → list_any p (map f xs) ≡ list_any (λ x. p (f x)) xs
any_map p f [] = refl
any_map p f (x ∷ xs) = ap (λ b. p (f x) || b) (any_map p f xs)

-- Laws of words, one by one.
use Rattle.std.proofs.Common.{◌≡◌, refl, sym, true, false, cond, List, [], ◌∷◌, ℕ, Option, None, Some, option_map, string_bytes, Result, Ok, Err, OnOk}
use Rattle.std.specs.Str.{bytes_eq}
use Rattle.help_texts.specs.declared.folder_words.Turn.{Turn}
use Rattle.help_texts.specs.declared.folder_words.Parting.{Parting}
use Rattle.help_texts.specs.declared.folder_words.Turn.TheVariants.{Any, Plain}
use Rattle.help_texts.specs.Folder.{folder_word, folder_end_word, folder_behind}
use Rattle.help_texts.specs.Parting.{turn_behind, folder_from, folder_with}

-- behind the end word no word names a folder
pub end_folder : (found : Option (List ℕ)) (word : List ℕ) (words : List (List ℕ)) → bytes_eq word folder_end_word ≡ true → folder_behind found (word ∷ words) ≡ found
end_folder found word [] is = refl
end_folder found word (value ∷ words) is = rw (is) refl

-- a word that is neither the end word nor the option names none
pub word_folder : (found : Option (List ℕ)) (word : List ℕ) (words : List (List ℕ)) → bytes_eq word folder_end_word ≡ false → bytes_eq word folder_word ≡ false → folder_behind found (word ∷ words) ≡ folder_behind found words
word_folder found word [] no_end no_option = refl
word_folder found word (value ∷ words) no_end no_option = rw (no_end, no_option) refl

-- nor does one that is not the option
pub any_folder : (found : Option (List ℕ)) (word : List ℕ) → bytes_eq word folder_word ≡ false → (words : List (List ℕ)) → folder_from Any found (word ∷ words) ≡ folder_from (turn_behind Any word) found words
any_folder found word no_option words = elim (bytes_eq word folder_end_word) as (λ b. bytes_eq word folder_end_word ≡ b → folder_behind found (word ∷ words) ≡ folder_from (cond b Plain Any) found words) [
  | true ↦ λ is. end_folder found word words is
  | false ↦ λ is. word_folder found word words is no_option
] refl

-- where a call answers Ok, more is so where this is
pub on_ok : {T E : Type 0} (result : Result T E) {P Q : Type 0} → (P → Q) → OnOk result P → OnOk result Q
on_ok (Ok value) more is = more is
on_ok (Err error) more is = tt

-- a word that is not the option, which is handed on behind the face
pub any_parting : (before after : Parting) (word : List ℕ) (next : Turn) → before.turn ≡ Any → bytes_eq word folder_word ≡ false → next ≡ turn_behind Any word → after.folder ≡ before.folder → after.turn ≡ next → (rest : List (List ℕ)) → folder_with after rest ≡ folder_with before (word ∷ rest)
any_parting before after word next is no_option means folder turn rest =
    rw (turn, means, folder, is)
    (sym (any_folder (option_map string_bytes before.folder) word no_option rest))

-- Which command words are.
use Rattle.std.proofs.Common.{◌≡◌, ℕ, Bool, true, false, List, [], ◌∷◌, ◌++◌, drop, bytes_eq, None, Some, Option, String, string_bytes, cond, append_assoc, refl, sym, ap, ◌∙◌}
use Rattle.std.specs.declared.alloc.Global.{Global}
use Rattle.std.specs.Prelude.{◌&&◌, codes}
use Rattle.std.specs.List.{list_all}
use Rattle.std.proofs.lemmas.List.Folds.{list_all-append}
use Rattle.std.proofs.lemmas.Slice.Eq.{bytes_eq-Decides}
use Rattle.command_words.specs.Items.{texts, is_text}
use Rattle.testr_words.specs.Words.{face_word, face_of, face_in, and_then, if_texts}
use Rattle.testr_words.specs.declared.command.Face.{Face}
use Rattle.testr_words.specs.declared.command.Face.TheVariants.{Testr, Stestr}

-- the word that names a face is its own
named : (word : List ℕ) (face : Face) → face_of word ≡ Some face → word ≡ face_word face
named word face is = by (bytes_eq word (codes "testr")) (bytes_eq word (codes "stestr")) (bytes_eq-Decides word (codes "testr")).0 (bytes_eq-Decides word (codes "stestr")).0 is
  where
    by : (first second : Bool) → (first ≡ true → word ≡ codes "testr") → (second ≡ true → word ≡ codes "stestr") → cond first (Some Testr) (cond second (Some Stestr) None) ≡ Some face → word ≡ face_word face
    by true second first_is other some =
        let same : Testr ≡ face = cc in
        first_is refl ∙ ap face_word same
    by false true first_is second_is some =
        let same : Stestr ≡ face = cc in
        second_is refl ∙ ap face_word same
    by false false first_is second_is some = cc

-- words that name a face are its name and the words behind it
pub face_first : (words : List (String Global)) (face : Face) → face_in (texts words) ≡ Some face → texts words ≡ face_word face ∷ texts (drop 1 words)
face_first [] face is = cc
face_first (word ∷ words) face is = λ i. named (string_bytes word) face is i ∷ texts words

-- the first word of a face names it
names_itself : (face : Face) → face_of (face_word face) ≡ Some face
names_itself Testr = refl
names_itself Stestr = refl

-- and other words name none
pub face_other : (words : List (List ℕ)) → face_in words ≡ None → (face : Face) (behind : List (List ℕ)) → words ≡ face_word face ∷ behind → ⊥
face_other words unnamed face behind is =
    let there : face_in words ≡ Some face = ap face_in is ∙ names_itself face in
    cc

-- words name one face
pub same_face : (face given : Face) (rest behind : List (List ℕ)) → face_word face ∷ rest ≡ face_word given ∷ behind → face ≡ given
same_face face given rest behind is =
    let both : Some face ≡ Some given = sym (names_itself face) ∙ ap face_in is ∙ names_itself given in
    cc

-- these names behind others, where each of them is a text
abbrev pub behind : List (List ℕ) → List (List ℕ) → Option (List (List ℕ))
behind done names = and_then (if_texts names) (λ rest. Some (done ++ rest))

by_case : (b : Bool) (done front rest : List (List ℕ)) → and_then (cond b (Some (front ++ rest)) None) (λ r. Some (done ++ r)) ≡ and_then (cond b (Some rest) None) (λ r. Some ((done ++ front) ++ r))
by_case true done front rest = ap Some (sym (append_assoc done front rest))
by_case false done front rest = refl

pub behind_none : (done front rest : List (List ℕ)) → list_all is_text front ≡ false → behind done (front ++ rest) ≡ None
behind_none done front rest no_texts =
    ap (λ b. and_then (cond b (Some (front ++ rest)) None) (λ r. Some (done ++ r))) (list_all-append is_text front rest ∙ ap (λ b. b && list_all is_text rest) no_texts)

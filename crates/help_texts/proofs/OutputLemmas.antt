-- Laws of words that may name a file, one by one.
use Rattle.std.proofs.Common.{◌≡◌, sym, ap, ◌∙◌, false, List, [], ◌∷◌, ℕ, Option, Some, option_map, string_bytes, Result, Ok, Err, OnOk}
use Rattle.std.proofs.lemmas.Bool.{cond-false}
use Rattle.help_texts.specs.declared.output_words.PartingOutput.{PartingOutput}
use Rattle.help_texts.specs.declared.output_words.Place.TheVariants.{Any}
use Rattle.help_texts.specs.Output.{takes_next, joined_file, later_file, file_behind}
use Rattle.help_texts.specs.PartingOutput.{file_of_all}

-- a word that has no value behind it names the file that is joined to it, or none
joined_behind : (found : Option (List ℕ)) (word : List ℕ) (next : Option (List ℕ)) → takes_next word ≡ false → joined_file word ≡ next → (words : List (List ℕ)) → file_behind (later_file next found) words ≡ file_behind found (word ∷ words)
joined_behind found word next none is [] = ap (λ o. later_file o found) (sym is)
joined_behind found word next none is (value ∷ words) =
    ap (λ o. file_behind (later_file o found) (value ∷ words)) (sym is)
    ∙ sym (cond-false (takes_next word) (file_behind (Some value) words) (file_behind (later_file (joined_file word) found) (value ∷ words)) none)

-- where two things are so at Ok, a third is that follows from them
pub on_both : {T E : Type 0} (result : Result T E) {P Q R : Type 0} → (P → Q → R) → OnOk result P → OnOk result Q → OnOk result R
on_both (Ok value) more first second = more first second
on_both (Err error) more first second = tt

-- the parting behind such a word
pub joined_parting : (before after : PartingOutput) (word : List ℕ) (next : Option (List ℕ)) → before.place ≡ Any → takes_next word ≡ false → joined_file word ≡ next → option_map string_bytes after.file ≡ later_file next (option_map string_bytes before.file) → after.place ≡ Any → (rest : List (List ℕ)) → file_of_all after rest ≡ file_of_all before (word ∷ rest)
joined_parting before after word next place none is file next_place rest =
    rw (next_place, file, place)
    (joined_behind (option_map string_bytes before.file) word next none is rest)

-- The form of a file of ids, both ways.
use Rattle.std.proofs.Common.{◌≡◌, ℕ, List, ◌∷◌, ◌++◌, refl, sym, ap, ◌∙◌, append_assoc, arith}
use Rattle.std.specs.Fmt.{decimal}
use Rattle.std.specs.List.{flat_map}
use Rattle.std.proofs.lemmas.Fmt.{decimal_injective}
use Rattle.std.proofs.lemmas.List.{append_cancel_left}
use Rattle.sub_number.specs.Lines.{with_newline}
use Rattle.run_shelf.specs.IdFiles.{with_zero, heading, IsIdFile, BeginsWithHeading, AreEntries}
use Rattle.run_shelf.proofs.IdFormLemmas.{cut_same, decimal_digits}
use Rattle.run_shelf.proofs.IdHeadLemmas.{line_rest}

same_heading : (title bytes rest others : List ℕ) (count also : ℕ) → BeginsWithHeading title bytes count rest → BeginsWithHeading title bytes also others → (also ≡ count) × (others ≡ rest)
same_heading title bytes rest others count also one two =
    let lines : decimal count ++ 10 ∷ rest ≡ decimal also ++ 10 ∷ others =
    sym (line_rest (decimal count) rest) ∙ append_cancel_left title (with_newline (decimal count) ++ rest) (with_newline (decimal also) ++ others) (sym one.is ∙ two.is) ∙ line_rest (decimal also) others in
    let parts = cut_same 10 (decimal count) (decimal also) rest others (decimal_digits 10 count (omega arith) one.small) (decimal_digits 10 also (omega arith) two.small) lines in
    (decimal_injective also count two.small one.small parts.0, parts.1)

module _ (title bytes name : List ℕ) (titled : title ≡ with_newline name) where
  pub of_form : (number : ℕ) (ids : List (List ℕ)) → IsIdFile name bytes number ids → BeginsWithHeading title bytes number (flat_map with_zero ids)
  of_form number ids file = record { is = file.is ∙ append_assoc (with_newline name) (with_newline (decimal number)) (flat_map with_zero ids) ∙ ap (λ l. l ++ (with_newline (decimal number) ++ flat_map with_zero ids)) (sym titled); small = file.small }

  pub no_heading : ((number : ℕ) (rest : List ℕ) → BeginsWithHeading title bytes number rest → ⊥) → (number : ℕ) (ids : List (List ℕ)) → IsIdFile name bytes number ids → ⊥
  no_heading none number ids file = none number (flat_map with_zero ids) (of_form number ids file)

  module _ (count : ℕ) (rest : List ℕ) (head : BeginsWithHeading title bytes count rest) where
    pub no_entries : ((ids : List (List ℕ)) → AreEntries rest ids → ⊥) → (number : ℕ) (ids : List (List ℕ)) → IsIdFile name bytes number ids → ⊥
    no_entries none number ids file =
        none ids (record { is = sym (same_heading title bytes rest (flat_map with_zero ids) count number head (of_form number ids file)).1; are = file.are })

    pub is_file : (ids : List (List ℕ)) → AreEntries rest ids → IsIdFile name bytes count ids
    is_file ids entries = record {
      is = head.is ∙ ap (λ l. l ++ (with_newline (decimal count) ++ rest)) titled ∙ sym (append_assoc (with_newline name) (with_newline (decimal count)) rest) ∙ ap (λ l. heading name count ++ l) entries.is;
      small = head.small;
      are = entries.are;
    }

-- the bytes tell the number
pub one_number : (name bytes : List ℕ) (number also : ℕ) (ids others : List (List ℕ)) → IsIdFile name bytes number ids → IsIdFile name bytes also others → also ≡ number
one_number name bytes number also ids others file other =
    (same_heading (with_newline name) bytes (flat_map with_zero ids) (flat_map with_zero others) number also (of_form (with_newline name) bytes name refl number ids file) (of_form (with_newline name) bytes name refl also others other)).0

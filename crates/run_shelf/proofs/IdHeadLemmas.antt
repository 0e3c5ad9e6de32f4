-- The heading of a file of ids.
use Rattle.std.proofs.Common.{◌≡◌, ℕ, true, false, List, [], ◌∷◌, ◌++◌, length, take, drop, refl, sym, ap, ◌∙◌, subst, append_assoc, arith}
use Rattle.std.specs.Fmt.{decimal}
use Rattle.std.specs.Str.{bytes_eq}
use Rattle.std.proofs.lemmas.Bool.{both_ways}
use Rattle.std.proofs.lemmas.Slice.Eq.{bytes_eq-Decides}
use Rattle.std.proofs.lemmas.List.{take-append-drop, append_cancel_left}
use Rattle.sub_number.specs.Lines.{with_newline}
use Rattle.run_shelf.specs.IdFiles.{Lacks, IsCutAtMark, SpellsDecimal, BeginsWithHeading}
use Rattle.run_shelf.proofs.IdFormLemmas.{cut_same, has_mark, decimal_digits}

take_front : (xs ys : List ℕ) → take (length xs) (xs ++ ys) ≡ xs
take_front [] ys = refl
take_front (x ∷ xs) ys = ap (λ l. x ∷ l) (take_front xs ys)

pub line_rest : (digits rest : List ℕ) → with_newline digits ++ rest ≡ digits ++ 10 ∷ rest
line_rest digits rest = append_assoc digits (10 ∷ []) rest

module _ (title bytes : List ℕ) where
  -- there is no such title
  pub no_title : bytes_eq (take (length title) bytes) title ≡ false → (count : ℕ) (rest : List ℕ) → BeginsWithHeading title bytes count rest → ⊥
  no_title differs count rest begins =
      both_ways (bytes_eq (take (length title) bytes) title) differs
      ((bytes_eq-Decides (take (length title) bytes) title).1 (ap (take (length title)) begins.is ∙ take_front title (with_newline (decimal count) ++ rest)))

  module _ (behind : List ℕ) (same : bytes_eq (take (length title) bytes) title ≡ true) (is : behind ≡ drop (length title) bytes) where
    pub behind_title : bytes ≡ title ++ behind
    behind_title = sym (take-append-drop (length title) bytes) ∙ (λ i. (bytes_eq-Decides (take (length title) bytes) title).0 same i ++ sym is i)

    line_of : (count : ℕ) (rest : List ℕ) → BeginsWithHeading title bytes count rest → behind ≡ decimal count ++ 10 ∷ rest
    line_of count rest begins = append_cancel_left title behind (with_newline (decimal count) ++ rest) (sym behind_title ∙ begins.is) ∙ line_rest (decimal count) rest

    pub no_line : Lacks 10 behind → (count : ℕ) (rest : List ℕ) → BeginsWithHeading title bytes count rest → ⊥
    no_line lacks count rest begins = has_mark 10 (decimal count) rest (subst (Lacks 10) (line_of count rest begins) lacks)

    module _ (digits after : List ℕ) (cut : IsCutAtMark 10 behind digits after) where
      pub no_number : ((number : ℕ) → SpellsDecimal digits number → ⊥) → (count : ℕ) (rest : List ℕ) → BeginsWithHeading title bytes count rest → ⊥
      no_number none count rest begins =
          let parts = cut_same 10 digits (decimal count) after rest cut.first (decimal_digits 10 count (omega arith) begins.small) (sym cut.is ∙ line_of count rest begins) in
          none count (record { is = sym parts.0; small = begins.small })

      pub has_heading : (number : ℕ) → SpellsDecimal digits number → BeginsWithHeading title bytes number after
      has_heading number spells = record {
        is = behind_title ∙ ap (λ l. title ++ l) (cut.is ∙ ap (λ (l : List ℕ). l ++ 10 ∷ after) spells.is ∙ sym (line_rest (decimal number) after));
        small = spells.small;
      }

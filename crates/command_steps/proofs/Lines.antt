-- A line that is written in three parts.
use Rattle.std.proofs.Common.{◌≡◌, ◌++◌, ℕ, List, Option, OnOk, Result, Ok, Err, subst, ap, ◌∙◌, append_assoc}
use Rattle.std.proofs.KnownBytes.{Appends-trans}
use Rattle.std.specs.Io.KnownBytes.{Appends}
use Rattle.edge_io.specs.Bytes.{AppendsPrefix}
use Rattle.command_steps.proofs.Prefixes.{prefix_of_front, prefix_behind}

module _ (front number rest given : List ℕ) (given_is : given ≡ front) (a b : Option (List ℕ)) where
  pub front_in_part : AppendsPrefix a b given → AppendsPrefix a b (front ++ number ++ rest)
  front_in_part first =
      subst (λ (l : List ℕ). AppendsPrefix a b (l ++ number ++ rest)) given_is (prefix_of_front a b (given ++ number) rest (prefix_of_front a b given number first))

  module _ (first : Appends a b given) (c : Option (List ℕ)) where
    pub number_in_part : AppendsPrefix b c number → AppendsPrefix a c (front ++ number ++ rest)
    number_in_part second =
        subst (λ (l : List ℕ). AppendsPrefix a c (l ++ number ++ rest)) given_is (prefix_of_front a c (given ++ number) rest (prefix_behind a b c given number first second))

    module _ (second : Appends b c number) (behind : List ℕ) (behind_is : behind ≡ rest) (d : Option (List ℕ)) where
      pub whole_line : {T E : Type 0} (r : Result T E) → OnOk r (Appends c d behind) → OnOk r (Appends a d (front ++ number ++ rest))
      whole_line (Err e) third = tt
      whole_line (Ok x) third =
          subst (λ (l : List ℕ). Appends a d (l ++ number ++ rest)) given_is
          (subst (λ (l : List ℕ). Appends a d (given ++ number ++ l)) behind_is (Appends-trans a c d (given ++ number) behind (Appends-trans a b c given number first second) third))

      pub rest_in_part : AppendsPrefix c d behind → AppendsPrefix a d (front ++ number ++ rest)
      rest_in_part third =
          subst (λ (l : List ℕ). AppendsPrefix a d (l ++ number ++ rest)) given_is
          (subst (λ (l : List ℕ). AppendsPrefix a d (given ++ number ++ l)) behind_is (prefix_behind a c d (given ++ number) behind (Appends-trans a b c given number first second) third))

-- ---- what a program said, and a line behind it

module _ (said line given : List ℕ) (given_is : given ≡ said) (a b : Option (List ℕ)) where
  pub said_in_part : AppendsPrefix a b given → AppendsPrefix a b (said ++ line)
  said_in_part first = subst (λ (l : List ℕ). AppendsPrefix a b (l ++ line)) given_is (prefix_of_front a b given line first)

  module _ (first : Appends a b given) (behind : List ℕ) (behind_is : behind ≡ line) (c : Option (List ℕ)) where
    pub line_in_part : AppendsPrefix b c behind → AppendsPrefix a c (said ++ line)
    line_in_part second =
        subst (λ (l : List ℕ). AppendsPrefix a c (l ++ line)) given_is
        (subst (λ (l : List ℕ). AppendsPrefix a c (given ++ l)) behind_is (prefix_behind a b c given behind first second))

    pub said_and_line : {T E : Type 0} (r : Result T E) → OnOk r (Appends b c behind) → OnOk r (Appends a c (said ++ line))
    said_and_line (Err e) second = tt
    said_and_line (Ok x) second =
        subst (λ (l : List ℕ). Appends a c (l ++ line)) given_is
        (subst (λ (l : List ℕ). Appends a c (given ++ l)) behind_is (Appends-trans a b c given behind first second))

-- ---- a name, a place in it, and what is told of that

pub place_told : (front name word number rest : List ℕ) → front ++ (((name ++ word) ++ number) ++ rest) ≡ front ++ (name ++ (word ++ (number ++ rest)))
place_told front name word number rest = ap (λ l. front ++ l) (append_assoc (name ++ word) number rest ∙ append_assoc name word (number ++ rest))

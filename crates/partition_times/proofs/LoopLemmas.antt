-- A loop over a list: what is done, what comes now and what is left.
use Rattle.std.proofs.Common.{◌≡◌, ◌++◌, List, [], ◌∷◌, All, sym, ◌∙◌, ap, subst}
use Rattle.std.specs.List.{AllByRecursion}
use Rattle.std.proofs.lemmas.List.{append_assoc, append-nil}
use Rattle.std.proofs.lemmas.List.Elements.{recursion_from_All}

module _ {A : Type 0} where
  pub one_more_done : (done left next all : List A) (x : A) → done ++ left ≡ all → left ≡ x ∷ next → (done ++ x ∷ []) ++ next ≡ all
  one_more_done done left next all x parts step = append_assoc done (x ∷ []) next ∙ ap (λ l. done ++ l) (sym step) ∙ parts

  pub all_done : (done left all : List A) → done ++ left ≡ all → left ≡ [] → done ≡ all
  all_done done left all parts none = sym (append-nil done) ∙ ap (λ l. done ++ l) (sym none) ∙ parts

  here : (P : A → Type 0) (done next : List A) (x : A) → AllByRecursion P (done ++ x ∷ next) → P x
  here P [] next x all = all.0
  here P (y ∷ done) next x all = here P done next x all.1

  pub holds_here : (P : A → Type 0) (done left next all : List A) (x : A) → done ++ left ≡ all → left ≡ x ∷ next → All P all → P x
  holds_here P done left next all x parts step holds =
      here P done next x (subst (AllByRecursion P) (sym (ap (λ l. done ++ l) (sym step) ∙ parts)) (recursion_from_All P all holds))

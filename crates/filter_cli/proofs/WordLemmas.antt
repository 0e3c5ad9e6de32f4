-- The words of a filter, one after another.
use Rattle.std.proofs.Common.{◌≡◌, ℕ, Bool, true, false, ◌||◌, None, Some, List, [], ◌∷◌, ◌++◌, map, String, string_bytes, refl, sym, ap, ◌∙◌, append-nil}
use Rattle.std.specs.declared.alloc.Global.{Global}
use Rattle.std.specs.List.{flat_map, list_any}
use Rattle.std.proofs.lemmas.Grind.{flat_map-append}
use Rattle.std.proofs.lemmas.Bool.{cond-true, cond-false}
use Rattle.command_words.specs.Items.{texts}
use Rattle.filter_cli.specs.Retagging.{is_refused, has_refused, added_by, removed_by, retagging_of}

pub any_map : {A B : Type 0} → (p : B → Bool) (f : A → B) (xs : List A) → list_any p (map f xs) ≡ list_any (λ x. p (f x)) xs
any_map p f [] = refl
any_map p f (x ∷ xs) = ap (λ (b : Bool). p (f x) || b) (any_map p f xs)

-- one more of them, and what it gives
pub given_one : {A : Type 0} → (g : A → List (List ℕ)) (xs : List A) (x : A) → flat_map g (xs ++ x ∷ []) ≡ flat_map g xs ++ g x
given_one g xs x = flat_map-append g xs (x ∷ []) ∙ ap (λ (l : List (List ℕ)). flat_map g xs ++ l) (append-nil (g x))

pub refused_so : (words : List (String Global)) (some : Bool) → some ≡ list_any (λ word. is_refused (string_bytes word)) words → some ≡ true → None ≡ retagging_of (texts words)
refused_so words some is refused = sym (cond-true (has_refused (texts words)) None (Some (record { add = added_by (texts words); remove = removed_by (texts words) })) (any_map is_refused string_bytes words ∙ sym is ∙ refused))

pub retagged_so : (words : List (String Global)) (some : Bool) → some ≡ list_any (λ word. is_refused (string_bytes word)) words → some ≡ false → Some (record { add = added_by (texts words); remove = removed_by (texts words) }) ≡ retagging_of (texts words)
retagged_so words some is refused = sym (cond-false (has_refused (texts words)) None (Some (record { add = added_by (texts words); remove = removed_by (texts words) })) (any_map is_refused string_bytes words ∙ sym is ∙ refused))

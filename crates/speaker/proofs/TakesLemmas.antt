-- What a sink took of some texts, one after another.
use Rattle.std.proofs.Common.{◌≡◌, ℕ, zero, suc, ◌+◌, ◌≤◌, Bool, true, false, Option, List, [], ◌∷◌, ◌++◌, length, take, refl, sym, ◌∙◌, ap, subst, arith, true≢false}
use Rattle.std.proofs.lemmas.List.{length-append}
use Rattle.std.proofs.KnownBytes.{Appends-nil, Appends-trans}
use Rattle.std.specs.Io.KnownBytes.{Appends}
use Rattle.edge_io.specs.Bytes.{AppendsPrefix}
use Rattle.edge_io.specs.Causes.{Rose}
use Rattle.edge_io.specs.Seen.{Seen}
use Rattle.speaker.specs.Speaking.{Takes}

take_front : (n : ℕ) (xs ys : List ℕ) → n ≤ length xs → take n (xs ++ ys) ≡ take n xs
take_front zero xs ys few = refl
take_front (suc n) [] ys few = absurd (omega (arith, few))
take_front (suc n) (x ∷ xs) ys few = ap (λ l. x ∷ l) (take_front n xs ys (omega (arith, few)))

take_past : (n : ℕ) (xs ys : List ℕ) → take (length xs + n) (xs ++ ys) ≡ xs ++ take n ys
take_past n [] ys =
    let same : 0 + n ≡ n = omega arith in
    ap (λ m. take m ys) same
take_past n (x ∷ xs) ys =
    let same : length (x ∷ xs) + n ≡ suc (length xs + n) = omega arith in
    ap (λ m. take m (x ∷ (xs ++ ys))) same ∙ ap (λ l. x ∷ l) (take_past n xs ys)

pub none_yet : (now : Seen (List ℕ)) → Takes [] now now false
none_yet now = record {
  front = (0, omega arith, Appends-nil now.told);
  whole = λ _. Appends-nil now.told;
  stands = λ _. refl;
  rose = λ never. absurd (true≢false (sym never));
}

-- where nothing was said, and the sink is as it was
pub is_new : (start now : Seen (List ℕ)) (failed : Bool) → now ≡ start → failed ≡ false → Takes [] start now failed
is_new start now failed same well = subst (λ (s : Seen (List ℕ)). Takes [] start s failed) (sym same) (subst (λ b. Takes [] start start b) (sym well) (none_yet start))

-- after a fault nothing more is taken
pub takes_none : (said text : List ℕ) (start now : Seen (List ℕ)) (failed : Bool) → failed ≡ true → Takes said start now failed → Takes (said ++ text) start now failed
takes_none said text start now failed is h = record {
  front = (h.front.0, omega (arith, h.front.1, length-append said text), subst (Appends start.told now.told) (sym (take_front h.front.0 said text h.front.1)) h.front.2);
  whole = λ well. absurd (true≢false (sym is ∙ well));
  stands = λ well. absurd (true≢false (sym is ∙ well));
  rose = h.rose;
}

-- the sink takes the text, or some first bytes of it and fails
pub takes_more : (said text : List ℕ) (start mid now : Seen (List ℕ)) (before after : Bool) → before ≡ false → Takes said start mid before
    → AppendsPrefix mid.told now.told text → (after ≡ false → Appends mid.told now.told text) → (after ≡ false → now.faults ≡ mid.faults) → (after ≡ true → Rose mid.faults now.faults)
    → Takes (said ++ text) start now after
takes_more said text start mid now before after well h front whole stands rose = record {
  front = (
    length said + front.0,
    omega (arith, front.1, length-append said text),
    subst (Appends start.told now.told) (sym (take_past front.0 said text)) (Appends-trans start.told mid.told now.told said (take front.0 text) (h.whole well) front.2),
  );
  whole = λ is. Appends-trans start.told mid.told now.told said text (h.whole well) (whole is);
  stands = λ is. stands is ∙ h.stands well;
  rose = λ is. subst (λ n. Rose n now.faults) (h.stands well) (rose is);
}

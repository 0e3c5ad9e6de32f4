-- The laws that a filter owes, of a text in front of what a filter writes.
use Rattle.std.proofs.Common.{◌≡◌, ℕ, Bool, true, false, List, [], ◌∷◌, ◌++◌, sym, ap, subst, ◌∙◌, append_assoc, arith}
use Rattle.packet_codec.specs.Grammar.{AreBytes}
use Rattle.filter_cli.specs.Headed.{IsSeenBelow, IsWholeBelow, HasBelow}

-- where what a filter has written is always the text that the bytes fed decide, so it is with a head in front of it
pub below_seen : (head : List ℕ) (begun : Bool) (takes sees : List ℕ → List ℕ → Type 0) → ((fed shown : List ℕ) → takes fed shown → sees fed shown) → (fed shown : List ℕ) → HasBelow head begun takes fed shown → IsSeenBelow head sees fed shown
below_seen head false takes sees each fed shown h = subst (λ (l : List ℕ). IsSeenBelow head sees l shown) (sym h.0) h.1
below_seen head true takes sees each [] shown h = absurd (omega (arith, h.0))
below_seen head true takes sees each (byte ∷ bytes) shown h = record { more = h.1.more; grown = h.1.grown; holds = each (byte ∷ bytes) h.1.more h.1.holds }

-- where the text that first bytes decide is a first part of that of each stream that begins with them, so it is below a
-- head
pub below_front : (head : List ℕ) (sees : List ℕ → List ℕ → Type 0) (ends : List ℕ → List ℕ → ℕ → Type 0) → ((bytes more shown all : List ℕ) (status : ℕ) → AreBytes (bytes ++ more) → sees bytes shown → ends (bytes ++ more) all status → (rest : List ℕ) × (all ≡ shown ++ rest))
    → (bytes more shown all : List ℕ) (status : ℕ) → AreBytes (bytes ++ more) → IsSeenBelow head sees bytes shown → IsWholeBelow head ends (bytes ++ more) all status → (rest : List ℕ) × (all ≡ shown ++ rest)
below_front head sees ends front [] more shown all status are s w = (all, ap (λ (l : List ℕ). l ++ all) (sym s))
below_front head sees ends front (byte ∷ bytes) more shown all status are s w =
    let (rest, is) = front (byte ∷ bytes) more s.more w.more status are s.holds w.holds in
    (rest, w.grown ∙ ap (λ (l : List ℕ). head ++ l) is ∙ sym (append_assoc head s.more rest) ∙ ap (λ (l : List ℕ). l ++ rest) (sym s.grown))

-- where a stream has one text and one status by a filter, so it has below a head
pub below_one : (head : List ℕ) (ends : List ℕ → List ℕ → ℕ → Type 0) → ((bytes all other : List ℕ) (status another : ℕ) → AreBytes bytes → ends bytes all status → ends bytes other another → (all ≡ other) × (status ≡ another))
    → (bytes all other : List ℕ) (status another : ℕ) → AreBytes bytes → IsWholeBelow head ends bytes all status → IsWholeBelow head ends bytes other another → (all ≡ other) × (status ≡ another)
below_one head ends one bytes all other status another are w v =
    let same = one bytes w.more v.more status another are w.holds v.holds in
    (w.grown ∙ ap (λ (l : List ℕ). head ++ l) same.0 ∙ sym v.grown, same.1)

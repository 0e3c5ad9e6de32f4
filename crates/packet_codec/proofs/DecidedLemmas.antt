-- Facts of which it can be told whether they hold.
use Rattle.std.proofs.Common.{◌≡◌, ◌⊎◌, ℕ, ◌<◌, ◌≤◌, Bool, true, false, true≢false, List, [], ◌∷◌, ◌++◌, All, length, get_or, drop, refl, inl, inr, sym, ap, subst, arith}
use Rattle.std.proofs.lemmas.Bool.{cases_lt, cases_eq}
use Rattle.std.proofs.lemmas.List.Elements.{All-nil, All-cons, All-head, All-tail}

-- it holds, or it cannot
abbrev pub Decided : Type 0 → Type 0
Decided P = P ⊎ (P → ⊥)

pub decided_as : {P Q : Type 0} → (P → Q) → (Q → P) → Decided P → Decided Q
decided_as to from (inl p) = inl (to p)
decided_as to from (inr never) = inr (λ q. never (from q))

pub decided_both : {P Q : Type 0} → Decided P → Decided Q → Decided (P × Q)
decided_both (inl p) (inl q) = inl (p, q)
decided_both (inl p) (inr never) = inr (λ both. never both.1)
decided_both (inr never) decided = inr (λ both. never both.0)

pub decided_not : {P : Type 0} → Decided P → Decided (P → ⊥)
decided_not (inl p) = inr (λ never. never p)
decided_not (inr never) = inl never

pub decided_less : (m n : ℕ) → Decided (m < n)
decided_less m n = elim (cases_lt m n) [ inl less ↦ inl less | inr past ↦ inr (λ less. omega (arith, less, past)) ]

pub decided_most : (m n : ℕ) → Decided (m ≤ n)
decided_most m n = elim (cases_lt n m) [ inl past ↦ inr (λ most. omega (arith, most, past)) | inr most ↦ inl most ]

pub decided_true : (b : Bool) → Decided (b ≡ true)
decided_true true = inl refl
decided_true false = inr (λ is. true≢false (sym is))

pub decided_all : {X : Type 0} (P : X → Type 0) → ((x : X) → Decided (P x)) → (xs : List X) → Decided (All P xs)
decided_all P each [] = inl (All-nil P)
decided_all P each (x ∷ xs) = decided_as (λ both. All-cons P x xs both.0 both.1) (λ all. (All-head P x xs all, All-tail P x xs all)) (decided_both (each x) (decided_all P each xs))

pub decided_lists : (xs ys : List ℕ) → Decided (xs ≡ ys)
decided_lists [] [] = inl refl
decided_lists [] (y ∷ ys) = inr (λ e. omega (arith, ap length e))
decided_lists (x ∷ xs) [] = inr (λ e. omega (arith, ap length e))
decided_lists (x ∷ xs) (y ∷ ys) =
    decided_as (λ both. cc (both.0, both.1)) (λ e. (ap (λ (l : List ℕ). get_or l 0 0) e, ap (drop 1) e)) (decided_both (cases_eq x y) (decided_lists xs ys))

-- ---- one of a kind has it

-- whether one of the kind has a property can be told where it can be told of each
abbrev pub CanSearch : Type 0 → Type 1
CanSearch A = (P : A → Type 0) → ((a : A) → Decided (P a)) → Decided ((a : A) × P a)

pub search_flags : CanSearch Bool
search_flags P each = one_of (each true) (each false)
  where
    one_of : Decided (P true) → Decided (P false) → Decided ((b : Bool) × P b)
    one_of (inl p) other = inl (true, p)
    one_of (inr never) (inl p) = inl (false, p)
    one_of (inr never) (inr never') = inr neither
      where
        neither : (b : Bool) × P b → ⊥
        neither (true, p) = never p
        neither (false, p) = never' p

pub search_both : {A B : Type 0} → CanSearch A → CanSearch B → CanSearch (A × B)
search_both {A} {B} first second P each =
    decided_as (λ found. ((found.0, found.1.0), found.1.1)) (λ found. (found.0.0, (found.0.1, found.1)))
    (first (λ a. (b : B) × P (a, b)) (λ a. second (λ b. P (a, b)) (λ b. each (a, b))))

-- ---- lists in two parts

-- a front of the bytes and the rest have the property
pub record Parted (P : List ℕ → List ℕ → Type 0) (bytes : List ℕ) : Type 0 where
  pub front : List ℕ
  pub rest : List ℕ
  pub parts : bytes ≡ front ++ rest
  pub holds : P front rest

pub decided_parts : (P : List ℕ → List ℕ → Type 0) → ((front rest : List ℕ) → Decided (P front rest)) → (bytes : List ℕ) → Decided (Parted P bytes)
decided_parts P each [] = decided_as (λ p. record { front = []; rest = []; parts = refl; holds = p }) (λ parted. only parted.front parted.rest parted.parts parted.holds) (each [] [])
  where
    only : (front rest : List ℕ) → [] ≡ front ++ rest → P front rest → P [] []
    only [] [] parts p = p
    only [] (y ∷ rest) parts p = absurd (omega (arith, ap length parts))
    only (y ∷ front) rest parts p = absurd (omega (arith, ap length parts))
decided_parts P each (x ∷ xs) = here_or_later (each [] (x ∷ xs)) (decided_parts (λ front rest. P (x ∷ front) rest) (λ front rest. each (x ∷ front) rest) xs)
  where
    here_or_later : Decided (P [] (x ∷ xs)) → Decided (Parted (λ front rest. P (x ∷ front) rest) xs) → Decided (Parted P (x ∷ xs))
    here_or_later (inl p) later = inl (record { front = []; rest = x ∷ xs; parts = refl; holds = p })
    here_or_later (inr never) (inl later) = inl (record { front = x ∷ later.front; rest = later.rest; parts = ap (λ (l : List ℕ). x ∷ l) later.parts; holds = later.holds })
    here_or_later (inr never) (inr not_later) = inr (λ parted. neither parted.front parted.rest parted.parts parted.holds)
      where
        neither : (front rest : List ℕ) → x ∷ xs ≡ front ++ rest → P front rest → ⊥
        neither [] rest parts p = never (subst (λ (l : List ℕ). P [] l) (sym parts) p)
        neither (y ∷ front) rest parts p =
            let first : x ≡ y = ap (λ (l : List ℕ). get_or l 0 0) parts in
            not_later (record { front = front; rest = rest; parts = ap (drop 1) parts; holds = subst (λ (b : ℕ). P (b ∷ front) rest) (sym first) p })

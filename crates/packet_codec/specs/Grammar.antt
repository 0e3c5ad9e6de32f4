-- Reading from the front: a relation `Spells` between a whole list of bytes and a value, on a front of a longer list.
use Rattle.std.specs.Prelude.{◌≡◌, ℕ, ◌<◌, Bool, true, false, Option, Some, None, List, [], ◌++◌, All}
use Rattle.sub_number.specs.Numbers.{SpellsNumber}

-- each of them is a byte
abbrev pub AreBytes : List ℕ → Type 0
AreBytes bytes = All (λ byte. byte < 256) bytes

-- a front of the bytes spells the value, and the rest follows it
pub record SpellsFront {A : Type 0} (Spells : List ℕ → A → Type 0) (bytes : List ℕ) (value : A) (rest : List ℕ) : Type 0 where
  pub front : List ℕ
  pub parts : bytes ≡ front ++ rest
  pub spelled : Spells front value

-- no front of the bytes spells a value
abbrev pub NotFound : {A : Type 0} → (List ℕ → A → Type 0) → List ℕ → Type 0
NotFound {A} Spells bytes = (value : A) (rest : List ℕ) → SpellsFront Spells bytes value rest → ⊥

-- one after the other
pub record Pair {A B : Type 0} (First : List ℕ → A → Type 0) (Second : List ℕ → B → Type 0) (bytes : List ℕ) (value : A × B) : Type 0 where
  pub first : List ℕ
  pub second : List ℕ
  pub parts : bytes ≡ first ++ second
  pub first_spelled : First first value.0
  pub second_spelled : Second second value.1

-- a number, and so much of what follows it
pub record Counted {A : Type 0} (size : A → ℕ) (Spells : List ℕ → A → Type 0) (bytes : List ℕ) (value : A) : Type 0 where
  pub number : List ℕ
  pub content : List ℕ
  pub parts : bytes ≡ number ++ content
  pub number_spelled : SpellsNumber number (size value)
  pub content_spelled : Spells content value

-- there where the flag is set, and no bytes where it is not
abbrev pub Flagged : {A : Type 0} → Bool → (List ℕ → A → Type 0) → List ℕ → Option A → Type 0
Flagged true Spells bytes (Some value) = Spells bytes value
Flagged true Spells bytes None = ⊥
Flagged false Spells bytes (Some value) = ⊥
Flagged false Spells bytes None = bytes ≡ []

-- A text in front of what a filter writes. `takes`, `sees` and `ends` are the filter's: what was fed and written, the text
-- that first bytes decide, and the text and status of a whole stream.
use Rattle.std.specs.Prelude.{◌≡◌, ℕ, ◌<◌, Bool, true, false, List, [], ◌∷◌, length}
use Rattle.filter_cli.specs.Pipe.{Adds}

-- Before the first byte nothing is decided. From the first byte on, the text is, and what the filter's bytes decide.
abbrev pub IsSeenBelow : (head : List ℕ) (sees : List ℕ → List ℕ → Type 0) → (bytes text : List ℕ) → Type 0
IsSeenBelow head sees [] text = text ≡ []
IsSeenBelow head sees (byte ∷ bytes) text = Adds head text (sees (byte ∷ bytes))

-- the text of a whole stream is the head and the filter's text behind it, also where the stream is empty
abbrev pub IsWholeBelow : (head : List ℕ) (ends : List ℕ → List ℕ → ℕ → Type 0) → (bytes text : List ℕ) (status : ℕ) → Type 0
IsWholeBelow head ends bytes text status = Adds head text (λ more. ends bytes more status)

-- the text was written with the first byte
abbrev pub HasBelow : (head : List ℕ) (begun : Bool) (takes : List ℕ → List ℕ → Type 0) → (fed shown : List ℕ) → Type 0
HasBelow head false takes fed shown = (fed ≡ []) × (shown ≡ []) × takes [] []
HasBelow head true takes fed shown = (0 < length fed) × Adds head shown (takes fed)

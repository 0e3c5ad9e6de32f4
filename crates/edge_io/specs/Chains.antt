-- Steps that something of the outside goes through, and chains of them.
use Rattle.std.specs.Prelude.{◌≡◌, Result, Ok, Err}

-- A step goes from one state of what it touches to another, and answers a value, or why it refuses.
abbrev pub Step : Type 0 → Type 0 → Type 0 → Type 1
Step W A E = W → W → Result A E → Type 0

-- A chain of two steps: the first that refuses decides, over what the steps before it left. `name` says which refusal of
-- the whole chain a fault of the first step is.
pub data Then {W A B E R : Type 0} (name : E → R) (first : Step W A E) (second : A → Step W B R) (before after : W) (result : Result B R) : Type 0 where
  stops : (fault : E) → result ≡ Err (name fault) → first before after (Err fault) → Then name first second before after result
  goes_on : (value : A) (between : W) → first before between (Ok value) → second value between after result → Then name first second before after result

-- a step that touches nothing
pub record Still {W A E : Type 0} (Says : Result A E → Type 0) (before after : W) (result : Result A E) : Type 0 where
  pub says : Says result
  pub same : after ≡ before

-- the answer is this, and nothing happens
pub record Gives {W A R : Type 0} (value : A) (before after : W) (result : Result A R) : Type 0 where
  pub answer : result ≡ Ok value
  pub same : after ≡ before

-- a part of a state, and the state with another such part
pub record Part (W P : Type 0) : Type 0 where
  pub of : W → P
  pub put : W → P → W
  pub of_put : (state : W) (part : P) → of (put state part) ≡ part

-- a step of a part, which leaves all else
pub record At {W P A E : Type 0} (part : Part W P) (step : Step P A E) (before after : W) (result : Result A E) : Type 0 where
  pub at : step (part.of before) (part.of after) result
  pub rest : after ≡ part.put before (part.of after)

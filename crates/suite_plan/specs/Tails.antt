-- The last bytes of a text, while it comes piece by piece.
use Rattle.std.specs.Prelude.{◌≡◌, ℕ, ◌<◌, ◌≤◌, true, false, List, [], ◌++◌, length}
use Rattle.suite_plan.specs.Saying.{most_said}
use Rattle.suite_plan.specs.declared.tail.Tail.{Tail}

-- What is held are the last bytes of the text: all of them, or as many as are told at most, behind some that were let go of.
pub record IsTailOf (text : List ℕ) (tail : Tail) : Type 0 where
  pub gone : List ℕ
  pub whole : text ≡ gone ++ tail.bytes.items
  pub all : tail.cut ≡ false → gone ≡ []
  pub cut : tail.cut ≡ true → (0 < length gone) × (most_said ≤ length tail.bytes.items)

-- What was taken of a child that is read piece by piece.
use Rattle.std.specs.Prelude.{◌≡◌, ⊤, ℕ, ℤ, ◌+◌, ◌^◌, ◌≤◌, Option, List, ◌++◌, length, Result, Ok, Err}
use Rattle.edge_io.specs.Children.{Output, GivesFront, HasEnded}
use Rattle.edge_io.specs.Steps.{Goes}
use Rattle.edge_io.specs.declared.child.Finish.TheVariants.{Exit, ReadFault}
use Rattle.suite_plan.specs.Children.{IsBroken}
use Rattle.suite_plan.specs.declared.output.OutputFault.{OutputFault}
use Rattle.suite_plan.specs.declared.output.OutputFault.TheVariants.{Child, NoMemory}

-- these were taken from the front of what the child had left
pub record HasTakenFront (has : List ℕ → Type 0) (before now : Option Output) : Type 0 where
  pub done : List ℕ
  pub given : Goes before now (GivesFront done)
  pub taken : has done

-- a further piece was taken, behind what was taken before
abbrev pub TakesOutputPiece : (has now : List ℕ → Type 0) → Option Output → Option Output → Type 0
TakesOutputPiece has now before after = (done : List ℕ) → has done → (piece : List ℕ) × Goes before after (GivesFront piece) × now (done ++ piece)

-- so many bytes were given, or more
abbrev pub GivesBytes : (count : ℕ) → Output → Output → Type 0
GivesBytes count s t = count + length t.bytes ≤ length s.bytes

-- the bytes are more than can be counted
abbrev pub IsEndless : Output → Type 0
IsEndless output = 2 ^ 64 ≤ length output.bytes + 1

-- the output had ended, and its reads do not fail there
pub record IsAtEnd (s t : Output) : Type 0 where
  pub ended : HasEnded s
  pub finish : t.finish ≡ s.finish

-- all of it was taken, and the child is still to be waited for
pub record IsTaken (has : List ℕ → Type 0) (s t : Output) : Type 0 where
  pub taken : has s.bytes
  pub finish : t.finish ≡ s.finish
  pub whole : s.finish ≡ ReadFault → ⊥

-- the whole output was taken, and the child ended with this status; or it was not read to its end, or not be waited for
abbrev pub HasStatus : (has : List ℕ → Type 0) → Result ℤ OutputFault → Output → Type 0
HasStatus has (Ok status) output = (output.finish ≡ Exit status) × has output.bytes
HasStatus has (Err Child) output = IsBroken output.finish
HasStatus has (Err NoMemory) output = ⊤

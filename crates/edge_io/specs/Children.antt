-- What the calls of a child do to what it has left, and what they tell of its end (docs/DISK.md, children).
use Rattle.std.specs.Prelude.{◌≡◌, ◌↔◌, ℕ, ◌<◌, ⊤, Option, IfSome, List, [], ◌++◌, length, take, All, Result, Ok, IsErr, MatchResult, ℤ, FitsSigned}
use mir.Syntax.{w32}
use Rattle.edge_io.specs.Steps.{Goes, Stays}
use Rattle.edge_io.specs.declared.child.Finish.{Finish}
use Rattle.edge_io.specs.declared.child.Finish.TheVariants.{Exit, ReadFault, WaitFault}

-- what a child tells: the bytes that its reads have not given yet, and how it comes to its end
pub record Output : Type 0 where
  pub bytes : List ℕ
  pub finish : Finish

-- these bytes were moved from the front of what is left
pub record GivesFront (front : List ℕ) (s t : Output) : Type 0 where
  pub bytes : s.bytes ≡ front ++ t.bytes
  pub finish : t.finish ≡ s.finish

-- a read moved as many bytes as it answers, and none where it fails
abbrev pub ReadsFront : {E : Type 0} → Option Output → Option Output → Result ℕ E → List ℕ → Type 0
ReadsFront old new result buf = MatchResult result (λ n. Goes old new (GivesFront (take n buf))) (λ _. Goes old new Stays)

-- the bytes have ended, and the reads do not fail there
pub record HasEnded (s : Output) : Type 0 where
  pub bytes : s.bytes ≡ []
  pub finish : s.finish ≡ ReadFault → ⊥

-- the bytes have ended, and the reads fail there
pub record HasBroken (s : Output) : Type 0 where
  pub bytes : s.bytes ≡ []
  pub finish : s.finish ≡ ReadFault

-- where there is room: none come exactly at the end, and the call fails exactly where the reads do
pub record EndsExactly {E : Type 0} (s : Output) (result : Result ℕ E) : Type 0 where
  pub ended : (result ≡ Ok 0) ↔ HasEnded s
  pub failed : IsErr result ↔ HasBroken s

-- where the child tells what is left, a read into a buffer with room says exactly where that ends
abbrev pub ReadsToEnd : {E : Type 0} → Option Output → Result ℕ E → List ℕ → Type 0
ReadsToEnd told result buf = IfSome told (λ s. 0 < length buf → EndsExactly s result)

-- the wait for a child that finishes so; where its reads fail, the answer is not known
abbrev pub Waits : {E : Type 0} → Finish → Result ℤ E → Type 0
Waits (Exit status) result = result ≡ Ok status
Waits ReadFault result = ⊤
Waits WaitFault result = IsErr result

-- where the child tells how it finishes, a wait says it so
abbrev pub WaitsAsTold : {E : Type 0} → Option Output → Result ℤ E → Type 0
WaitsAsTold told result = IfSome told (λ s. Waits s.finish result)

-- what is left may be anything, and the finish stays
abbrev pub Stops : Output → Output → Type 0
Stops s t = t.finish ≡ s.finish

-- what is told to be left are bytes
abbrev pub AreBytesLeft : Option Output → Type 0
AreBytesLeft told = IfSome told (λ s. All (λ byte. byte < 256) s.bytes)

-- a status has 32 bits
abbrev pub IsFinish : Finish → Type 0
IsFinish finish = (status : ℤ) → finish ≡ Exit status → FitsSigned w32 status

-- the finish that is told is one that a child can come to
abbrev pub CanFinish : Option Output → Type 0
CanFinish told = IfSome told (λ s. IsFinish s.finish)

-- what a child can have left, and how it can finish
pub record IsOutput (output : Output) : Type 0 where
  pub bytes : All (λ byte. byte < 256) output.bytes
  pub finish : IsFinish output.finish

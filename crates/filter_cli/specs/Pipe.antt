-- An input and an output, and what moves between them.
use Rattle.std.specs.Prelude.{◌≡◌, ℕ, List, ◌++◌}
use Rattle.std.specs.Io.KnownBytes.{Consumes, Appends}
use Rattle.edge_io.specs.Seen.{Seen}

-- what is seen of an input and of an output at one moment
pub record Pipe : Type 0 where
  pub input : Seen (List ℕ)
  pub out : Seen (List ℕ)

-- the pipe of which this input and this output are seen
abbrev pub pipe : Seen (List ℕ) → Seen (List ℕ) → Pipe
pipe input out = record { input = input; out = out }

-- these bytes were read, and this text was written
pub record Moves (read text : List ℕ) (before after : Pipe) : Type 0 where
  pub took : Consumes before.input.told after.input.told read
  pub wrote : Appends before.out.told after.out.told text

-- no call failed
pub record NoFault (before after : Pipe) : Type 0 where
  pub input : after.input.faults ≡ before.input.faults
  pub out : after.out.faults ≡ before.out.faults

-- a list grew at its end by a text of which this is so
pub record Adds (old new : List ℕ) (P : List ℕ → Type 0) : Type 0 where
  pub more : List ℕ
  pub grown : new ≡ old ++ more
  pub holds : P more

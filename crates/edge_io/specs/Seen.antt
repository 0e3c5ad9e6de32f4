-- What an object of the outside shows at one moment (docs/DISK.md, faults).
use Rattle.std.specs.Prelude.{ℕ, Option}

-- what is told of it, and how often it has failed
pub record Seen (S : Type 0) : Type 0 where
  pub told : Option S
  pub faults : ℕ

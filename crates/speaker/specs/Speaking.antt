-- What is said on a sink that may fail: nothing more once it has (docs/COMMANDS.md, "Live lines").
use Rattle.std.specs.Prelude.{◌≡◌, ℕ, Bool, true, false, List}
use Rattle.std.specs.Io.KnownBytes.{Appends}
use Rattle.edge_io.specs.Bytes.{AppendsPrefix}
use Rattle.edge_io.specs.Causes.{Rose}
use Rattle.edge_io.specs.Seen.{Seen}

-- From the one moment to the other the sink was to take this text. It took all of it, unless it has failed: then it took some
-- first bytes, and the count of its faults rose.
pub record Takes (text : List ℕ) (before after : Seen (List ℕ)) (failed : Bool) : Type 0 where
  pub front : AppendsPrefix before.told after.told text
  pub whole : failed ≡ false → Appends before.told after.told text
  pub stands : failed ≡ false → after.faults ≡ before.faults
  pub rose : failed ≡ true → Rose before.faults after.faults

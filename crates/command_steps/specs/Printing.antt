-- How a text is printed part by part, through a buffer.
use Rattle.std.specs.Prelude.{◌≡◌, ◌++◌, ℕ, List, Result, OnOk}
use Rattle.std.specs.Io.KnownBytes.{Appends}
use Rattle.edge_io.specs.Causes.{HasCause}
use Rattle.edge_io.specs.Seen.{Seen}
use Rattle.command_steps.specs.declared.run_report.PrintFault.{PrintFault}

-- The part was put behind what was held: of both together the sink took a front, and the rest is held where no write failed.
pub record PrintsBehindHeld (part held : List ℕ) (before : Seen (List ℕ)) (kept : List ℕ) (after : Seen (List ℕ)) (result : Result (Unit {0}) PrintFault) : Type 0 where
  pub taken : List ℕ
  pub rest : List ℕ
  pub parts : taken ++ rest ≡ held ++ part
  pub grows : Appends before.told after.told taken
  pub keeps : OnOk result (kept ≡ rest)
  pub count : HasCause before.faults after.faults result

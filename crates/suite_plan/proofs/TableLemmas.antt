-- The lines of the processor table, one after another.
use Rattle.std.proofs.Common.{◌≡◌, ◌≤◌, ◌+◌, ℕ, List, length}
use Rattle.std.specs.List.{filter}
use Rattle.suite_plan.specs.Processors.{is_processor, processors_in}

-- so many of the lines in front of these begin a processor
pub record HasCountedProcessors (table : List ℕ) (rest : List (List ℕ)) (number : ℕ) : Type 0 where
  pub sum : processors_in table ≡ number + length (filter is_processor rest)
  pub room : number + length rest ≤ length table

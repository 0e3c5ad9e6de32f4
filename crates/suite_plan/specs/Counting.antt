-- The number that the output of a child tells.
use Rattle.std.specs.Prelude.{⊤, ℕ, Result, Ok, Err}
use Rattle.edge_io.specs.Children.{Output}
use Rattle.suite_plan.specs.Calling.{TellsNumber, TellsNone}
use Rattle.suite_plan.specs.Children.{IsBroken}
use Rattle.suite_plan.specs.declared.count_command.CallRefusal.{CallRefusal}
use Rattle.suite_plan.specs.declared.count_command.CallRefusal.TheVariants.{Spawn, Child, NoNumber, NoMemory}

-- what is answered of a child that was started and has this output
abbrev pub TellsCount : Result ℕ CallRefusal → Output → Type 0
TellsCount (Ok number) output = TellsNumber number output
TellsCount (Err Spawn) output = ⊥
TellsCount (Err Child) output = IsBroken output.finish
TellsCount (Err (NoNumber said)) output = TellsNone said output
TellsCount (Err NoMemory) output = ⊤

-- it is answered of a child that was started
abbrev pub IsOfCounter : Result ℕ CallRefusal → Type 0
IsOfCounter (Ok number) = ⊤
IsOfCounter (Err Spawn) = ⊥
IsOfCounter (Err Child) = ⊤
IsOfCounter (Err (NoNumber said)) = ⊤
IsOfCounter (Err NoMemory) = ⊤

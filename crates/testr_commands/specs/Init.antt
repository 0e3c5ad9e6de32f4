-- `testr init`, as the chain of its steps.
use Rattle.edge_io.specs.Disk.{Folder}
use Rattle.edge_io.specs.Seen.{Seen}
use Rattle.command_steps.specs.Steps.{Step, Then, Gives}
use Rattle.command_steps.specs.Store.{Makes}
use Rattle.command_steps.specs.declared.answer.Verdict.{Verdict}
use Rattle.command_steps.specs.declared.answer.Verdict.TheVariants.{Passed}
use Rattle.command_steps.specs.declared.answer.Refusal.{Refusal}
use Rattle.command_steps.specs.declared.answer.Refusal.TheVariants.{Init}

-- `init`, step by step: the repository is made, and nothing is printed
abbrev pub Inits : Step (Seen Folder) Verdict Refusal
Inits =
    Then Init Makes (λ _.
    Gives Passed)

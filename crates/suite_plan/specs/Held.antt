-- What is held of the output of a provision job.
use Rattle.std.specs.Prelude.{◌≡◌, ⊤, ℕ, ℤ, IfSome, List}
use Rattle.suite_plan.specs.Saying.{told_of}
use Rattle.suite_plan.specs.Tails.{IsTailOf}
use Rattle.suite_plan.specs.declared.provisioning.HeldOutput.{HeldOutput}
use Rattle.suite_plan.specs.declared.provisioning.ProvisionRefusal.{ProvisionRefusal}
use Rattle.suite_plan.specs.declared.provisioning.ProvisionRefusal.TheVariants.{Spawn, Child, Failed, NoneNamed, NamesLost, NoMemory}

-- what is held, if anything is, are the last bytes of these
abbrev pub HasHeld : HeldOutput → List ℕ → Type 0
HasHeld held bytes = IfSome held.tail (IsTailOf bytes)

-- what is told of a child that gave these bytes, and ended with another status than 0
abbrev pub TellsOtherwise : (status : ℤ) → (bytes : List ℕ) → ProvisionRefusal → Type 0
TellsOtherwise status bytes Spawn = ⊥
TellsOtherwise status bytes Child = ⊥
TellsOtherwise status bytes (Failed shown said) = (shown ≡ status) × (said ≡ told_of bytes)
TellsOtherwise status bytes NoneNamed = ⊥
TellsOtherwise status bytes NamesLost = ⊥
TellsOtherwise status bytes NoMemory = ⊤

-- Steps that are done where they are asked for.
use Rattle.std.specs.Prelude.{◌≡◌, Bool, true, false, Option, Some, None, List, Result, Ok, Err, Vec}
use Rattle.std.specs.declared.alloc.Global.{Global}
use Rattle.command_steps.specs.Steps.{Step}

-- whether a step is asked for that needs no more to be told: it is where this is true
abbrev pub when : Bool → Option (Unit {0})
when false = None
when true = Some tt

-- The step is done where it is asked for, and gives its value. Where it is not, there is none, and nothing happens.
pub data Perhaps {W X A E : Type 0} (asked : Option X) (step : X → Step W A E) (before after : W) (result : Result (Option A) E) : Type 0 where
  not_asked : asked ≡ None → result ≡ Ok None → after ≡ before → Perhaps asked step before after result
  did : (x : X) (value : A) → asked ≡ Some x → result ≡ Ok (Some value) → step x before after (Ok value) → Perhaps asked step before after result
  refused : (x : X) (fault : E) → asked ≡ Some x → result ≡ Err fault → step x before after (Err fault) → Perhaps asked step before after result

-- the answer, without its value
abbrev pub no_value : {A E : Type 0} → Result A E → Result (Unit {0}) E
no_value (Ok value) = Ok tt
no_value (Err fault) = Err fault

-- the answer, its value as a list
abbrev pub in_list : {A E : Type 0} → Result (Vec A Global) E → Result (List A) E
in_list (Ok value) = Ok value.items
in_list (Err fault) = Err fault

-- The number that a child tells.
use Rattle.std.proofs.Common.{◌≡◌, ℕ, List, inl, inr, sym, ap, ◌∙◌}
use Rattle.std.specs.Prelude.{Option, Some, None, IfSome, Ok, Err, ℤ, pos}
use Rattle.edge_io.specs.Children.{Output}
use Rattle.edge_io.specs.declared.child.Finish.TheVariants.{Exit}
use Rattle.suite_plan.specs.Calling.{called_number}
use Rattle.suite_plan.specs.Counting.{TellsCount}
use Rattle.suite_plan.specs.Outputs.{HasStatus}
use Rattle.suite_plan.specs.Saying.{told_of}
use Rattle.suite_plan.specs.Tails.{IsTailOf}
use Rattle.suite_plan.specs.declared.count_command.CallRefusal.TheVariants.{NoNumber}
use Rattle.suite_plan.specs.declared.tail.Tail.{Tail}
use Rattle.suite_plan.proofs.CountLemmas.{called_tail}

-- the last bytes of the output are held
abbrev HoldsTail : Tail → List ℕ → Type 0
HoldsTail tail bytes = IsTailOf bytes tail

pub number_told : (told : Option Output) (status : ℤ) (tail : Tail) (answer : Option ℕ) (number : ℕ) → IfSome told (HasStatus (HoldsTail tail) (Ok status)) → status ≡ pos 0 → answer ≡ called_number tail.bytes.items → answer ≡ Some number → IfSome told (TellsCount (Ok number))
number_told None status tail answer number ends zero is some = tt
number_told (Some output) status tail answer number ends zero is some = record {
  ended = ends.0 ∙ ap Exit zero;
  number_is = sym (called_tail output.bytes tail ends.1) ∙ sym is ∙ some;
}

pub none_told : (told : Option Output) (status : ℤ) (tail : Tail) (answer : Option ℕ) (said : List ℕ) → IfSome told (HasStatus (HoldsTail tail) (Ok status)) → answer ≡ called_number tail.bytes.items → answer ≡ None
    → ((text : List ℕ) → IsTailOf text tail → said ≡ told_of text) → IfSome told (TellsCount (Err (NoNumber said)))
none_told None status tail answer said ends is none says = tt
none_told (Some output) status tail answer said ends is none says = record {
  status = status;
  ended = ends.0;
  none = inr (sym (called_tail output.bytes tail ends.1) ∙ sym is ∙ none);
  says = says output.bytes ends.1;
}

pub status_told : (told : Option Output) (status : ℤ) (tail : Tail) (said : List ℕ) → IfSome told (HasStatus (HoldsTail tail) (Ok status)) → (status ≡ pos 0 → ⊥)
    → ((text : List ℕ) → IsTailOf text tail → said ≡ told_of text) → IfSome told (TellsCount (Err (NoNumber said)))
status_told None status tail said ends other says = tt
status_told (Some output) status tail said ends other says = record {
  status = status;
  ended = ends.0;
  none = inl other;
  says = says output.bytes ends.1;
}

-- What was read of an input.
use Rattle.std.proofs.Common.{◌≡◌, ℕ, Option, None, Some, IfSome, List, ◌++◌, sym, ap, subst, ◌∙◌, append-nil}
use Rattle.std.specs.Io.KnownBytes.{Consumes, IsAtEnd}

-- so what holds of it holds of the told input
pub told_all : (P : List ℕ → Type 0) (left after : Option (List ℕ)) (bytes : List ℕ) → Consumes left after bytes → IsAtEnd after → P bytes → IfSome left P
told_all P None after bytes reads ends holds = tt
told_all P (Some x) None bytes reads ends holds = absurd reads
told_all P (Some x) (Some y) bytes reads ends holds =
    let same : x ≡ bytes = reads ∙ ap (λ l. bytes ++ l) ends ∙ append-nil bytes in
    subst P (sym same) holds

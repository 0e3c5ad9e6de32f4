-- Steps of a state that is known or not, one after another.
use Rattle.std.proofs.Common.{◌⊎◌, inl, inr, Option, None, Some, IfSome, Result, Ok, Err, OnOk, OnErr}
use Rattle.edge_io.specs.Steps.{Goes}

module _ {S : Type 0} where
  pub goes_then : (a b c : Option S) (R T Q : S → S → Type 0) → Goes a b R → Goes b c T → ((s m t : S) → R s m → T m t → Q s t) → Goes a c Q
  goes_then None None None R T Q first second f = tt
  goes_then None None (Some t) R T Q first second f = absurd second
  goes_then None (Some m) c R T Q first second f = absurd first
  goes_then (Some s) None c R T Q first second f = absurd first
  goes_then (Some s) (Some m) None R T Q first second f = absurd second
  goes_then (Some s) (Some m) (Some t) R T Q first second f = f s m t first second

  -- what is known of the state before
  pub goes_from : (a b : Option S) (P : S → Type 0) (R Q : S → S → Type 0) → IfSome a P → Goes a b R → ((s t : S) → P s → R s t → Q s t) → Goes a b Q
  goes_from None None P R Q here step f = tt
  goes_from None (Some t) P R Q here step f = absurd step
  goes_from (Some s) None P R Q here step f = absurd step
  goes_from (Some s) (Some t) P R Q here step f = f s t here step

  pub goes_weaker : (a b : Option S) (R Q : S → S → Type 0) → Goes a b R → ((s t : S) → R s t → Q s t) → Goes a b Q
  goes_weaker None None R Q step f = tt
  goes_weaker None (Some t) R Q step f = absurd step
  goes_weaker (Some s) None R Q step f = absurd step
  goes_weaker (Some s) (Some t) R Q step f = f s t step

  -- a call that did one thing or the other
  pub goes_either : {T E : Type 0} (r : Result T E) (a b : Option S) (R Q : S → S → Type 0) → OnOk r (Goes a b R) → OnErr r (Goes a b Q) → Goes a b (λ s t. R s t ⊎ Q s t)
  goes_either (Ok x) a b R Q ok err = goes_weaker a b R (λ s t. R s t ⊎ Q s t) ok (λ s t step. inl step)
  goes_either (Err e) a b R Q ok err = goes_weaker a b Q (λ s t. R s t ⊎ Q s t) err (λ s t step. inr step)

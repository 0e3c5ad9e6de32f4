-- What a script gives of units in turn.
use Rattle.std.proofs.Common.{◌≡◌, ℕ, List, [], ◌∷◌, ◌++◌, sym, ap, ◌∙◌, append_assoc, append-nil}
use Rattle.filter_cli.specs.Script.{Script, given_behind, given_by}

-- some units and others behind them give what the first ones give, and then what the others give behind these
pub given_then : {U : Type 0} → (script : Script U) (before units others : List U) → given_behind script before (units ++ others) ≡ given_behind script before units ++ given_behind script (before ++ units) others
given_then {U = U} script before [] others = ap (λ (l : List U). given_behind script l others) (sym (append-nil before))
given_then {U = U} script before (u ∷ units) others =
    ap (λ (l : List ℕ). script.gives before u ++ l) (given_then script (before ++ u ∷ []) units others
    ∙ ap (λ (l : List U). given_behind script (before ++ u ∷ []) units ++ given_behind script l others) (append_assoc before (u ∷ []) units))
    ∙ sym (append_assoc (script.gives before u) (given_behind script (before ++ u ∷ []) units) (given_behind script (before ++ u ∷ units) others))

-- one u more
pub given_more : {U : Type 0} → (script : Script U) (units : List U) (u : U) → given_by script (units ++ u ∷ []) ≡ given_by script units ++ script.gives units u
given_more script units u = given_then script [] units (u ∷ []) ∙ ap (λ (l : List ℕ). given_by script units ++ l) (append-nil (script.gives units u))

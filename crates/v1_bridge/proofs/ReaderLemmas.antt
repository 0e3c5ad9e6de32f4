-- A test without details, taken out of a reader and given back.
use Rattle.std.proofs.Common.{◌≡◌, List, ℕ, None, sym, ap, ◌∙◌}
use Rattle.v1_bridge.specs.declared.reader.V1Reader.{V1Reader}
use Rattle.v1_bridge.specs.declared.details_stage.OpenTest.{OpenTest}
use Rattle.v1_bridge.specs.Lines.{line_of, content}
use Rattle.v1_bridge.specs.Kept.{with_open, plain_test}
use Rattle.v1_bridge.specs.Reading.{step_inside, line_within}

plain_is : (t : OpenTest) → t.details ≡ None → plain_test t.id t.tags ≡ t
plain_is t none = λ i. record { id = t.id; tags = t.tags; details = sym none i }

-- a line within it, by what it says
pub plain_line : (r : V1Reader) (t : OpenTest) (line said : List ℕ) → t.details ≡ None → said ≡ content line
    → step_inside (with_open r (plain_test t.id t.tags)) (plain_test t.id t.tags) said (line_of said) ≡ line_within (with_open r t) t t.details line
plain_line r t line said none same =
    ap (λ (l : List ℕ). step_inside (with_open r (plain_test t.id t.tags)) (plain_test t.id t.tags) l (line_of l)) same
    ∙ (λ i. line_within (with_open r (plain_is t none i)) (plain_is t none i) (sym none i) line)

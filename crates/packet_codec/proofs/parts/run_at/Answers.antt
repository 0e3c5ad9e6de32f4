use Rattle.std.proofs.Common.{rules, ◌≡◌, length}
use Rattle.packet_codec.proofs.GrammarLemmas.{not_number}
use Rattle.packet_codec.proofs.ShapeLemmas.{run_past_end, run_found}
use Rattle.packet_codec.proofs.parts.run_at.Goals as goal

pub returns-in_err-len-clause-none : goal.returns-in_err-len-clause-none
returns-in_err-len-clause-none c = rw c.from_residual.ensures (not_number length (λ bytes run. bytes ≡ run) _ c.in_err-len.ensures.none)

pub returns-then-rest-len-clause-none : goal.returns-then-rest-len-clause-none
returns-then-rest-len-clause-none c = run_past_end _ _ _ c.type_inv.bytes c.in_ok-len.ensures.found c.if-rest-len.true

pub returns-clause-found : goal.returns-clause-found
returns-clause-found c = run_found _ _ _ _ _ c.in_ok-len.ensures.found c.if-rest-len.false (search rules) (search rules)

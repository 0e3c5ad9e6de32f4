use Rattle.std.proofs.Common.{rules}
use Rattle.packet_codec.proofs.GrammarLemmas.{not_flagged_as, found_flagged_as}
use Rattle.packet_codec.proofs.parts.where_set.Goals as goal

pub returns-in_err-field-clause-none : goal.returns-in_err-field-clause-none
returns-in_err-field-clause-none g c = rw c.from_residual.ensures (not_flagged_as g.F.Field.form.spells c.args.set _ (search rules) c.in_err-field.ensures.none)

pub returns-clause-found : goal.returns-clause-found
returns-clause-found g c =
    let field = c.in_ok-field.ensures.found in
    (_, found_flagged_as g.F.Field.form.spells c.args.set _ _ _ (search rules) field.1, field.2)

use Rattle.std.proofs.Common.{◌≡◌, ◌-◌, ◌++◌, ap, ◌∙◌, take, length, rules, append_assoc, replicate}
use Rattle.std.specs.Prelude.{codes}
use Rattle.std.specs.Fmt.{decimal}
use Rattle.sub_text.specs.Listed.{in_five_places}
use Rattle.sub_text.proofs.SlowLemmas.{padded_five}
use Rattle.sub_text.proofs.stats.write_number.Goals as goal

pub returns-clause-ok : goal.returns-clause-ok
returns-clause-ok c =
    let digits : c.as_bytes-digits.result.now ≡ decimal c.args.number = search rules in
    let room : c.saturating_sub-blanks.result ≡ 5 - length c.as_bytes-digits.result.now = search rules in
    let padded : take c.saturating_sub-blanks.result (codes "     ") ++ c.as_bytes-digits.result.now ≡ in_five_places c.args.number =
    padded_five c.saturating_sub-blanks.result c.as_bytes-digits.result.now room ∙ ap (λ l. replicate (5 - length l) 32 ++ l) digits in
    c.in_ok-extend_from_slice-2.ensures.items ∙ ap (λ l. l ++ c.as_bytes-digits.result.now) c.in_ok-extend_from_slice.ensures.items
    ∙ append_assoc c.args.text.now.items (take c.saturating_sub-blanks.result (codes "     ")) c.as_bytes-digits.result.now ∙ ap (λ l. c.args.text.now.items ++ l) padded

use Rattle.std.proofs.Common.{◌≡◌, ◌-◌, ◌++◌, ap, ◌∙◌, take, length, rules, append_assoc}
use Rattle.std.specs.Prelude.{codes}
use Rattle.sub_number.specs.Seconds.{printed_seconds}
use Rattle.sub_text.specs.Texts.{in_ten_places}
use Rattle.sub_text.proofs.SlowLemmas.{padded}
use Rattle.sub_text.proofs.slowest.write_seconds.Goals as goal

pub returns-clause-ok : goal.returns-clause-ok
returns-clause-ok c =
    let whole : c.seconds_text.new.out.items ≡ printed_seconds c.args.nanos = search rules in
    let room : c.saturating_sub-blanks.result ≡ 10 - length c.seconds_text.new.out.items = search rules in
    let line : take c.saturating_sub-blanks.result (codes "          ") ++ c.seconds_text.new.out.items ≡ in_ten_places (printed_seconds c.args.nanos) =
    padded c.saturating_sub-blanks.result c.seconds_text.new.out.items room ∙ ap in_ten_places whole in
    c.in_ok-extend_from_slice-2.ensures.items ∙ ap (λ l. l ++ c.deref.result.now) c.in_ok-extend_from_slice.ensures.items
    ∙ append_assoc c.args.text.now.items (take c.saturating_sub-blanks.result (codes "          ")) c.deref.result.now ∙ ap (λ l. c.args.text.now.items ++ l) (ap (λ l. take c.saturating_sub-blanks.result (codes "          ") ++ l) c.deref.ensures.value ∙ line)

use Rattle.std.proofs.Common.{List, ℕ, ◌++◌, refl, ap, ◌∙◌}
use Rattle.sub_export.specs.Records.{csv_head_text}
use Rattle.filter_cli.proofs.ChainLemmas.{still_stops, csv_named}
use Rattle.filter_cli.proofs.named_input.records_named.Goals as goal

pub returns-in_err-csv_head : goal.returns-in_err-csv_head
returns-in_err-csv_head g c input = still_stops _ c.from_residual.ensures.1 tt refl

pub returns-in_err-predicate : goal.returns-in_err-predicate
returns-in_err-predicate g c input = still_stops _ c.from_residual-in_err-predicate.ensures.1 tt refl

pub returns : goal.returns
returns g c input =
    let head = c.in_ok-csv_head.ensures.ok ∙ ap (λ (l : List ℕ). l ++ csv_head_text) c.new-head.ensures.items in
    csv_named c.csv_head.new.out.items c.args.rules.now c.new-exporting.result.sift.rules.now _ _ _ _ head c.new-exporting.ensures.rules (c.below_named.ensures input)

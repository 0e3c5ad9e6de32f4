use Rattle.std.proofs.Common.{ℕ, List, ◌++◌, ap, ◌∙◌}
use Rattle.event_sift.specs.Keeping.{keeps}
use Rattle.sub_export.specs.Records.{csv_head_text}
use Rattle.filter_cli.specs.Exporting.{csv_plan}
use Rattle.filter_cli.proofs.BelowLemmas.{nothing_below, csv_pumps, csv_prefix}
use Rattle.filter_cli.proofs.csv_export.export_stream.Goals as goal

pub returns-in_err-csv_head-clause-prefix : goal.returns-in_err-csv_head-clause-prefix
returns-in_err-csv_head-clause-prefix g c = nothing_below csv_head_text (csv_plan (keeps c.args.rules.now)) (g.I.Source.seen c.args.input.now).told (g.O.Sink.seen c.args.out.now).told

pub returns-in_err-predicate-clause-prefix : goal.returns-in_err-predicate-clause-prefix
returns-in_err-predicate-clause-prefix g c = nothing_below csv_head_text (csv_plan (keeps c.args.rules.now)) (g.I.Source.seen c.args.input.now).told (g.O.Sink.seen c.args.out.now).told

pub returns-clause-pumps : goal.returns-clause-pumps
returns-clause-pumps g c =
    let head = c.in_ok-csv_head.ensures.ok ∙ ap (λ (l : List ℕ). l ++ csv_head_text) c.new-head.ensures.items in
    csv_pumps c.csv_head.new.out.items c.args.rules.now c.new-exporting.result.sift.rules.now _ _ _ head c.new-exporting.ensures.rules c.pump_below.ensures.pumps

pub returns-clause-prefix : goal.returns-clause-prefix
returns-clause-prefix g c =
    let head = c.in_ok-csv_head.ensures.ok ∙ ap (λ (l : List ℕ). l ++ csv_head_text) c.new-head.ensures.items in
    csv_prefix c.csv_head.new.out.items c.args.rules.now c.new-exporting.result.sift.rules.now _ _ _ head c.new-exporting.ensures.rules c.pump_below.ensures.prefix

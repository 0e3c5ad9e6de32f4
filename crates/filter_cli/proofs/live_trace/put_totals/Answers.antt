use Rattle.std.proofs.Common.{Bool, ◌++◌, if◌then◌else◌, [], ap, sym, ◌∙◌}
use Rattle.live_text.specs.Totals.{totals_text}
use Rattle.filter_cli.proofs.live_trace.put_totals.Goals as goal

pub returns-in_ok-write_totals : goal.returns-in_ok-write_totals
returns-in_ok-write_totals c kind rows has =
    c.in_ok-write_totals.ensures kind rows has ∙ ap (λ (b : Bool). c.args.text.now.items ++ (if b then totals_text rows else [])) (sym c.if-totals.true)

use Rattle.std.proofs.Common.{◌≡◌, ◌++◌, Option, length, subst, ap, sym, ◌∙◌, append-nil}
use Rattle.std.specs.Prelude.{OnOk}
use Rattle.std.specs.List.{filter}
use Rattle.std.specs.Option.{option_to_list}
use Rattle.outcome_fold.specs.Answers.{is_run}
use Rattle.outcome_fold.specs.declared.row.Row.{Row}
use Rattle.live_text.specs.Live.{live_rows}
use Rattle.live_text.specs.Written.{HasWritten}
use Rattle.filter_cli.proofs.live_trace.put_row.Goals as goal

pub returns-in_default-clause-written : goal.returns-in_default-clause-written
returns-in_default-clause-written c kind rows has =
    subst (HasWritten kind c.args.writer.now) (sym (append-nil rows) ∙ ap (λ (r : Option Row). rows ++ option_to_list r) (sym c.in_default.is)) has

pub returns-clause-text : goal.returns-clause-text
returns-clause-text c kind rows has =
    subst (λ (r : Option Row). OnOk c.row.result (c.row.new.text.items ≡ c.args.text.now.items ++ live_rows kind (length (filter is_run rows)) (option_to_list r))) (sym c.in-Some.is) (c.row.ensures.text kind rows has)

pub returns-clause-written : goal.returns-clause-written
returns-clause-written c kind rows has =
    subst (λ (r : Option Row). OnOk c.row.result (HasWritten kind c.row.new.self (rows ++ option_to_list r))) (sym c.in-Some.is) (c.row.ensures.written kind rows has)

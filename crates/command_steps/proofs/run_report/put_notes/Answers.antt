use Rattle.std.proofs.Common.{◌++◌, append-nil, sym, ap, ◌∙◌}
use Rattle.std.proofs.lemmas.Result.{on_ok_weaker}
use Rattle.command_steps.specs.Reporting.{notes_for}
use Rattle.command_steps.proofs.SumLemmas.{notes_kept}
use Rattle.command_steps.proofs.run_report.put_notes.Goals as goal

pub returns-in-Plain : goal.returns-in-Plain
returns-in-Plain c = λ filter_tags rows sums. sym (append-nil c.args.text.now.items) ∙ ap (λ f. c.args.text.now.items ++ notes_for f rows) (sym c.in-Plain.is)

pub returns-in-Github : goal.returns-in-Github
returns-in-Github c = λ filter_tags rows sums.
    on_ok_weaker c.notes_text.result (λ put. put ∙ ap (λ l. c.args.text.now.items ++ l) (notes_kept rows _ (c.failing.ensures filter_tags rows sums)) ∙ ap (λ f. c.args.text.now.items ++ notes_for f rows) (sym c.in-Github.is)) c.notes_text.ensures.ok

use Rattle.std.proofs.Common.{◌++◌, append_assoc, sym, ap, ◌∙◌}
use Rattle.std.specs.List.{filter, flat_map}
use Rattle.outcome_fold.specs.Answers.{row_fails}
use Rattle.sub_text.specs.Texts.{failure_of, summary_lines}
use Rattle.command_steps.specs.Reporting.{notes_for}
use Rattle.command_steps.proofs.run_report.end_report.Goals as goal

pub returns : goal.returns
returns c = λ filter_tags rows sums.
    let blocks = flat_map failure_of (filter row_fails rows) in
    record {
      told = record {
        text =
            ap (λ l. blocks ++ l)
            (c.in_ok-put_notes.ensures filter_tags rows sums
            ∙ ap (λ l. l ++ notes_for c.args.format rows) (c.in_ok-summary_from.ensures.ok ∙ (λ i. c.new-lines.ensures.items i ++ summary_lines (c.counts.ensures filter_tags rows sums i) c.args.number)))
            ∙ sym (append_assoc blocks _ (notes_for c.args.format rows));
        verdict = c.verdict_of_summary.ensures filter_tags rows sums;
      };
    }

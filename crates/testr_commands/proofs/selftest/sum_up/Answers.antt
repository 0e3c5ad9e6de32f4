use Rattle.std.proofs.Common.{[], ◌++◌, ◌∙◌}
use Rattle.sub_text.specs.Texts.{summary_lines}
use Rattle.testr_commands.specs.SelfTest.{rows_in_turn}
use Rattle.testr_commands.proofs.selftest.sum_up.Goals as goal

pub returns : goal.returns
returns g c =
    let rows = rows_in_turn c.args.drawing in
    record {
      told = record {
        text = c.in_ok-summary_from.ensures.ok ∙ (λ i. c.new-text.ensures.items i ++ summary_lines (c.counts.ensures [] rows c.in_ok-summary.ensures i) 0);
        verdict = c.verdict_of_summary.ensures [] rows c.in_ok-summary.ensures;
      };
    }

use Rattle.std.proofs.Common.{◌∙◌, ap}
use Rattle.filter_cli.specs.JunitCases.{Cases, joined_counts}
use Rattle.filter_cli.proofs.JunitCaseLemmas.{counts_more}
use Rattle.filter_cli.proofs.junit_cases.counts_in.Goals as goal

pub loop-cases-preserved : goal.loop-cases-preserved
loop-cases-preserved c = λ groups is.
    counts_more groups c.args.routes.now c.loop-cases.cases-index c.cases-item.result c.loop-cases.counts c.in_ok-counts.counts is c.loop-cases-test.true c.cases-item.is (c.loop-cases.invariant groups is)
    (c.in_ok-counts.ensures ∙ ap (λ (cases : Cases). joined_counts c.loop-cases.counts cases.counts) c.cases.view_is)

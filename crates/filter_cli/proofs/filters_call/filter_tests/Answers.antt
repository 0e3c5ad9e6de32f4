use Rattle.std.proofs.Common.{Ok, Err, ap, refl}
use Rattle.filter_cli.specs.Pipe.{pipe}
use Rattle.filter_cli.specs.Steps.{goes_on}
use Rattle.event_sift.specs.declared.rules.Rules.{Rules}
use Rattle.filter_cli.specs.Filtering.{filter_plan}
use Rattle.filter_cli.proofs.ChainLemmas.{stopped, still_stops, still_done, gives, plan_as}
use Rattle.filter_cli.proofs.filters_call.filter_tests.Goals as goal

pub returns-in_err-rules : goal.returns-in_err-rules
returns-in_err-rules g c = still_stops _ c.from_residual.ensures.1 c.in_err-rules.ensures.patterns refl

pub returns-in_err-end : goal.returns-in_err-end
returns-in_err-end g c =
    let a = pipe (g.I.Source.seen c.args.input.now) (g.O.Sink.seen c.args.out.now) in
    let b = pipe (g.I.Source.seen c.filter_stream.new.input) (g.O.Sink.seen c.filter_stream.new.out) in
    still_done tt c.in_ok-rules.ensures.patterns (stopped c.in_err-end.field-0.0 c.from_residual-in_err-end.ensures.1 (plan_as _ _ a b (Err c.in_err-end.field-0.0) (ap (λ (r : Rules). filter_plan r c.args.selection.hidden) c.in_ok-rules.ensures.rules) c.in_err-end.ensures.pumps))

pub returns : goal.returns
returns g c =
    let a = pipe (g.I.Source.seen c.args.input.now) (g.O.Sink.seen c.args.out.now) in
    let b = pipe (g.I.Source.seen c.filter_stream.new.input) (g.O.Sink.seen c.filter_stream.new.out) in
    still_done tt c.in_ok-rules.ensures.patterns (goes_on _ _ (plan_as _ _ a b (Ok c.in_ok-end.end) (ap (λ (r : Rules). filter_plan r c.args.selection.hidden) c.in_ok-rules.ensures.rules) c.in_ok-end.ensures.pumps) gives)

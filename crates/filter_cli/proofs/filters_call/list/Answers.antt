use Rattle.std.proofs.Common.{Ok, Err, ap}
use Rattle.filter_cli.specs.declared.request.Asked.TheVariants as wanted
use Rattle.filter_cli.specs.Pipe.{pipe}
use Rattle.filter_cli.specs.Steps.{goes_on}
use Rattle.filter_cli.specs.Ls.{ls_plan}
use Rattle.filter_cli.proofs.ChainLemmas.{checked, none_given, stopped, gives, plan_as}
use Rattle.filter_cli.proofs.filters_call.list.Goals as goal

pub returns-in_err-end : goal.returns-in_err-end
returns-in_err-end g c =
    let a = pipe (g.I.Source.seen c.args.input.now) (g.O.Sink.seen c.args.out.now) in
    let b = pipe (g.I.Source.seen c.pump_notes.new.input) (g.O.Sink.seen c.pump_notes.new.out) in
    checked (wanted.Ls c.args.listing) a b _ none_given (stopped c.in_err-end.field-0.0 c.from_residual.ensures.1 (plan_as _ _ a b (Err c.in_err-end.field-0.0) (ap ls_plan c.new.ensures.listing) c.in_err-end.ensures.pumps))

pub returns : goal.returns
returns g c =
    let a = pipe (g.I.Source.seen c.args.input.now) (g.O.Sink.seen c.args.out.now) in
    let b = pipe (g.I.Source.seen c.pump_notes.new.input) (g.O.Sink.seen c.pump_notes.new.out) in
    checked (wanted.Ls c.args.listing) a b _ none_given (goes_on _ _ (plan_as _ _ a b (Ok c.in_ok-end.end) (ap ls_plan c.new.ensures.listing) c.in_ok-end.ensures.pumps) gives)

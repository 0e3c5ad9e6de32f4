use Rattle.std.proofs.Common.{Ok, Err}
use Rattle.filter_cli.specs.declared.request.Asked.TheVariants as wanted
use Rattle.filter_cli.specs.Pipe.{pipe}
use Rattle.filter_cli.specs.Steps.{goes_on}
use Rattle.filter_cli.proofs.ChainLemmas.{checked, none_given, stopped, gives, leaves_as}
use Rattle.filter_cli.proofs.filters_call.give_alone.Goals as goal

pub returns-in_err-end : goal.returns-in_err-end
returns-in_err-end g c input =
    let a = pipe input (g.O.Sink.seen c.args.out.now) in
    let b = pipe input (g.O.Sink.seen c.give_event.new.out) in
    checked (wanted.Output c.args.job) a b _ none_given (stopped c.in_err-end.field-0.0 c.from_residual.ensures.1 (leaves_as c.args.job input _ _ (Err c.in_err-end.field-0.0) c.requires c.in_err-end.ensures))

pub returns : goal.returns
returns g c input =
    let a = pipe input (g.O.Sink.seen c.args.out.now) in
    let b = pipe input (g.O.Sink.seen c.give_event.new.out) in
    checked (wanted.Output c.args.job) a b _ none_given (goes_on _ _ (leaves_as c.args.job input _ _ (Ok c.in_ok-end.end) c.requires c.in_ok-end.ensures) gives)

use Rattle.filter_cli.proofs.filters_call.give.Goals as goal

pub returns : goal.returns
returns g c = c.give_alone.ensures (g.I.Source.seen c.args.input.now)

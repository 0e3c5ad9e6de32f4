use Rattle.filter_cli.proofs.AttachLemmas.{attached_none, output_prefix}
use Rattle.filter_cli.proofs.attached_file.attach_stream.Goals as goal

pub pump-requires-clause-has : goal.pump-requires-clause-has
pump-requires-clause-has g c = attached_none _ _ c.new.ensures.held

pub returns-clause-prefix : goal.returns-clause-prefix
returns-clause-prefix g c = output_prefix c.args.job _ _ _ (rw (c.new.ensures.job) at c.pump.ensures.prefix)

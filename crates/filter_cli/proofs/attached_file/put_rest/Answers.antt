use Rattle.filter_cli.proofs.AttachLemmas.{rest_one, some_rest}
use Rattle.filter_cli.proofs.attached_file.put_rest.Goals as goal

pub returns : goal.returns
returns c = rest_one c.args.job.now c.args.rest.now _ _ (some_rest c.args.rest.now c.is_empty.result c.is_empty.ensures c.if-is_empty.false) c.requires.short c.in_ok-put_piece.ensures

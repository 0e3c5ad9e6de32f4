use Rattle.filter_cli.proofs.TapLemmas.{piece_fits}
use Rattle.filter_cli.proofs.packets.put_output.Goals as goal

pub encode-requires : goal.encode-requires
encode-requires c = piece_fits c.in_ok-event.event _ c.args.bytes.now c.in_ok-event.ensures c.in_ok-new.ensures c.requires

use Rattle.std.proofs.Common.{[]}
use Rattle.packet_rows.proofs.checksums.prefixes_of.Goals as goal

pub returns : goal.returns
returns c = c.let_go.ensures c.args.bytes.now (c.feed.ensures [] c.in_ok-prefixes.ensures)

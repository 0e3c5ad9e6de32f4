use Rattle.std.proofs.Common.{◌++◌}
use Rattle.filter_cli.proofs.Prefixes.{rest_in_part}
use Rattle.filter_cli.proofs.refusal_line.tell_line.Goals as goal

pub returns-clause-prefix : goal.returns-clause-prefix
returns-clause-prefix g c = rest_in_part c.args.line.name.now (c.args.line.front.now ++ (c.args.line.pattern.now ++ c.args.line.end.now)) _ c.as_bytes.ensures.value _ _ c.in_ok-write_whole.ensures.whole _ c.tell_behind.ensures.prefix

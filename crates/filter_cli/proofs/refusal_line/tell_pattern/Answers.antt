use Rattle.std.proofs.Common.{ℕ, List, refl, subst}
use Rattle.edge_io.specs.Bytes.{AppendsPrefix}
use Rattle.filter_cli.proofs.Prefixes.{rest_in_part}
use Rattle.filter_cli.proofs.refusal_line.tell_pattern.Goals as goal

pub returns-clause-prefix : goal.returns-clause-prefix
returns-clause-prefix g c =
    rest_in_part c.args.line.pattern.now c.args.line.end.now c.args.line.pattern.now refl _ _ c.in_ok-write_whole.ensures.whole _
    (subst (λ (l : List ℕ). AppendsPrefix (g.E.Sink.seen c.write_whole.new.out).told (g.E.Sink.seen c.write_whole-2.new.out).told l) c.as_bytes.ensures.value c.write_whole-2.ensures.prefix)

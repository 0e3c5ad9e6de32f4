use Rattle.std.proofs.Common.{[], refl, arith}
use Rattle.std.proofs.KnownBytes.{Consumes-nil, Appends-nil}
use Rattle.filter_cli.specs.Tagging.{tags_plan}
use Rattle.stream_end.specs.Inside.{ends_inside}
use Rattle.filter_cli.proofs.PumpLemmas.{stopped_by}
use Rattle.filter_cli.proofs.NotedLemmas.{seen_none}
use Rattle.filter_cli.proofs.NotedPrefix.{noted_prefix, nothing_written}
use Rattle.filter_cli.proofs.tag_filter.tag_stream.Goals as goal

pub returns-in_err-tagging-clause-pumps : goal.returns-in_err-tagging-clause-pumps
returns-in_err-tagging-clause-pumps g c = stopped_by ends_inside _ _ _ _ _ c.from_residual.ensures.1 (record {
  front = [];
  few = omega arith;
  piece = [];
  short = omega arith;
  text = [];
  moved = record { took = Consumes-nil _; wrote = Appends-nil _ };
  seen = seen_none _;
  faults = record { input = refl; out = refl };
})

pub returns-in_err-tagging-clause-prefix : goal.returns-in_err-tagging-clause-prefix
returns-in_err-tagging-clause-prefix g c = noted_prefix (tags_plan c.args.tagger) (g.I.Source.seen c.args.input.now).told (g.O.Sink.seen c.args.out.now).told (g.O.Sink.seen c.args.out.now).told (nothing_written _ _ _)

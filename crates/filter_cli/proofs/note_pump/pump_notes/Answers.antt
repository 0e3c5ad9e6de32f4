use Rattle.std.proofs.Common.{[], refl, arith}
use Rattle.std.proofs.KnownBytes.{Consumes-nil, Appends-nil}
use Rattle.stream_end.specs.Inside.{ends_inside}
use Rattle.filter_cli.proofs.PumpLemmas.{stopped_by}
use Rattle.filter_cli.proofs.NotedLemmas.{seen_none}
use Rattle.filter_cli.proofs.NotedPrefix.{noted_prefix, nothing_written}
use Rattle.filter_cli.proofs.note_pump.pump_notes.Goals as goal

pub returns-in_err-notes-clause-pumps : goal.returns-in_err-notes-clause-pumps
returns-in_err-notes-clause-pumps g c = stopped_by ends_inside _ _ _ _ _ c.from_residual.ensures.1 (record {
  front = [];
  few = omega arith;
  piece = [];
  short = omega arith;
  text = [];
  moved = record { took = Consumes-nil _; wrote = Appends-nil _ };
  seen = seen_none _;
  faults = record { input = refl; out = refl };
})

pub returns-in_err-notes-clause-prefix : goal.returns-in_err-notes-clause-prefix
returns-in_err-notes-clause-prefix g c = noted_prefix (g.F.NoteFilter.plan c.args.filter) (g.I.Source.seen c.args.input.now).told (g.O.Sink.seen c.args.out.now).told (g.O.Sink.seen c.args.out.now).told (nothing_written _ _ _)

pub returns-clause-prefix : goal.returns-clause-prefix
returns-clause-prefix g c =
    noted_prefix (g.F.NoteFilter.plan c.args.filter) _ _ _ (rw (c.in_ok-notes.ensures.filter) at c.pump.ensures.prefix)

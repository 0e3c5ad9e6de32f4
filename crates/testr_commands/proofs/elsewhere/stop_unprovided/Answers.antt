use Rattle.testr_commands.proofs.elsewhere.stop_unprovided.Goals as goal

pub returns : goal.returns
returns g c = record {
  line = g.E.Sink.seen c.answer-status.new.err;
  tells = c.answer-status.ensures;
  disposes = c.dispose.ensures.step;
}

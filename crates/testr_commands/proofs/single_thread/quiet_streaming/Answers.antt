use Rattle.testr_commands.proofs.single_thread.quiet_streaming.Goals as goal

pub returns : goal.returns
returns g c = record {
  promises = λ spawner. record {
    inner = c.quiet_forced-answer.result;
    told = g.E.Sink.seen c.quiet_forced-answer.new.err;
    rest = c.quiet_forced-answer.ensures.promises spawner;
    failed = c.quiet_forced-answer.new.silenced.out;
    silent = c.quiet_forced-answer.new.silenced.errors;
    silent_is = c.quiet_forced-answer.ensures.silent;
    heard_is = c.quiet_forced-answer.ensures.heard c.requires.streams;
    printed = c.quiet_forced-answer.ensures.streamed c.requires.streams;
    ends = c.end_stream.ensures;
  };
  spares = c.quiet_forced-answer.ensures.spares;
}

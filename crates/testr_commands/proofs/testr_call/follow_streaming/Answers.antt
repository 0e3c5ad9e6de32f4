use Rattle.testr_commands.proofs.testr_call.follow_streaming.Goals as goal

pub returns : goal.returns
returns g c = record {
  promises = record {
    inner = c.follow_forced-answer.result;
    told = g.E.Sink.seen c.follow_forced-answer.new.err;
    rest = c.follow_forced-answer.ensures.promises;
    failed = c.follow_forced-answer.new.silenced.out;
    silent = c.follow_forced-answer.new.silenced.errors;
    silent_is = c.follow_forced-answer.ensures.silent;
    heard_is = c.follow_forced-answer.ensures.heard c.requires.streams;
    printed = c.follow_forced-answer.ensures.streamed c.requires.streams;
    ends = c.end_stream.ensures;
  };
  spares = c.follow_forced-answer.ensures.spares;
}

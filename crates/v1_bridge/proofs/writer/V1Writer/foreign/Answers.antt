use Rattle.std.proofs.Common.{refl}
use Rattle.stream_reader.specs.declared.note.Note.TheVariants as note
use Rattle.v1_bridge.proofs.WriteLemmas.{last_push, seen_still}
use Rattle.v1_bridge.proofs.writer.V1Writer.foreign.Goals as goal

pub returns-clause-written : goal.returns-clause-written
returns-clause-written c notes has = record {
  seen = seen_still c.args.self.now.fold c.put_bytes.new.self.fold notes c.args.bytes.now c.in_ok-put_bytes.ensures.fold has.seen;
  last = last_push notes (note.Foreign c.args.bytes.now) c.args.self.now.last c.args.bytes.now c.put_bytes.new.self.last has.last refl c.in_ok-put_bytes.ensures.last;
}

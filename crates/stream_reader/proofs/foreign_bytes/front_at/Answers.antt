use Rattle.std.proofs.Common.{drop}
use Rattle.std.proofs.lemmas.List.{take_rest}
use Rattle.packet_codec.specs.Grammar.{AreBytes}
use Rattle.packet_codec.specs.Header.{NeedsMore}
use Rattle.stream_reader.proofs.RunLemmas.{foreign_at_end}
use Rattle.stream_reader.proofs.foreign_bytes.front_at.Goals as goal

pub returns-in-More-clause-front : goal.returns-in-More-clause-front
returns-in-More-clause-front c =
    let are : AreBytes (drop c.args.place c.args.buffer.now) = rw (take_rest, c.held.ensures) at c.are_bytes.ensures in
    let more : NeedsMore (drop c.args.place c.args.buffer.now) = c.in-More.ensures.looks in
    rw (c.if-ended.true) (foreign_at_end _ are more)

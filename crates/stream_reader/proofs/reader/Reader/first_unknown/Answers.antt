use Rattle.std.proofs.Common.{◌≡◌, true, false, rules}
use Rattle.packet_codec.specs.Grammar.{AreBytes}
use Rattle.packet_codec.specs.Header.{NeedsMore}
use Rattle.stream_reader.specs.Run.{AreForeign, IsForeign}
use Rattle.stream_reader.proofs.RunLemmas.{one_foreign, foreign_by_look, foreign_at_end}
use Rattle.stream_reader.proofs.GivingLemmas.{spent_more}
use Rattle.stream_reader.proofs.reader.Reader.first_unknown.Goals as goal

pub first_run-requires-clause-are_foreign : goal.first_run-requires-clause-are_foreign
first_run-requires-clause-are_foreign c =
    let are : AreBytes c.self.inside.buffer = rw (c.held.ensures) at c.are_bytes.ensures in
    let more : NeedsMore c.self.inside.buffer = rw (c.held-2.ensures) at c.in-More.ensures in
    let end : c.self.inside.ended ≡ true = c.if-self.true in
    let foreign : IsForeign c.self.inside.ended c.self.inside.buffer = rw end (foreign_at_end _ are more) in
    let one : AreForeign c.self.inside.ended c.self.inside.buffer 1 = one_foreign _ _ foreign in
    rw (← c.self.view_is) one

pub first_run-requires-in-No-clause-are_foreign : goal.first_run-requires-in-No-clause-are_foreign
first_run-requires-in-No-clause-are_foreign c =
    let foreign : IsForeign c.self.inside.ended c.self.inside.buffer = foreign_by_look c.self.inside.ended _ (rw (c.held-2.ensures) at c.in-No.ensures) in
    let one : AreForeign c.self.inside.ended c.self.inside.buffer 1 = one_foreign _ _ foreign in
    rw (← c.self.view_is) one

pub returns-in-More-2-clause-seen : goal.returns-in-More-2-clause-seen
returns-in-More-2-clause-seen c =
    let going_on : c.self.inside.ended ≡ false = search rules in
    let more : NeedsMore c.self.inside.buffer = rw (c.held-2.ensures) at c.in-More-2.ensures in
    rw (← c.self.view_is) (spent_more _ _ going_on more)

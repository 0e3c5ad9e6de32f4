use Rattle.std.proofs.Common.{◌≡◌}
use Rattle.stream_reader.specs.Stream.{IsSpent}
use Rattle.stream_reader.specs.First.{first_of}
use Rattle.stream_reader.specs.declared.first_note.First.TheVariants.{Nothing}
use Rattle.stream_reader.proofs.RoomLemmas.{spent_short}
use Rattle.stream_reader.proofs.reader.Reader.next.Goals as goal

pub returns-in_default-clause-held : goal.returns-in_default-clause-held
returns-in_default-clause-held c =
    let none : first_of c.in_ok-made.made ≡ Nothing = rw (c.in_default.is) at c.in_ok-note.ensures.none in
    let spent : IsSpent c.args.self.now.ended c.args.self.now.bytes = rw none at c.in_ok-made.ensures.first in
    rw (c.in_ok-made.ensures.same) (λ going_on. spent_short _ _ going_on spent)

use Rattle.std.proofs.Common.{◌<◌, arith}
use Rattle.stream_reader.specs.Run.{IsRun}
use Rattle.stream_reader.proofs.GivingLemmas.{spent_open}
use Rattle.stream_reader.proofs.reader.Reader.first_run.Goals as goal
use Rattle.stream_reader.proofs.reader.Reader.first_run.Goals.{in-More, in-Packet, in-No}

pub returns-clause-first : goal.returns-clause-first
returns-clause-first c =
    let run : IsRun c.args.self.now.ended c.args.self.now.bytes c.foreign_run-run.result.count c.foreign_run-run.result.front = rw (← c.self.view_is) c.foreign_run-run.ensures.run in
    let some : 0 < c.foreign_run-run.result.count = omega (arith, c.requires.some, c.foreign_run-run.ensures.known) in
    elim c.match-run.branch [
      | in-More w ↦ rw (w.result-is) (spent_open _ _ _ _ w.in-More.is run)
      | in-Packet w ↦ rw (w.result-is) (some, rw (w.in-Packet.is) at run)
      | in-No w ↦ rw (w.result-is) (some, rw (w.in-No.is) at run)
    ]

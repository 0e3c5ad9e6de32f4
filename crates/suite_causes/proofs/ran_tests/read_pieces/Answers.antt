use Rattle.std.proofs.Common.{◌∙◌, arith}
use Rattle.run_shelf.proofs.ReadingLemmas.{reads_then}
use Rattle.run_ledger.proofs.ClosesLemmas.{done_telling, tells_again}
use Rattle.suite_causes.proofs.RanLemmas.{read_on, read_last}
use Rattle.suite_causes.proofs.ran_tests.read_pieces.Goals as goal

pub returns-in_err-count-clause-reads : goal.returns-in_err-count-clause-reads
returns-in_err-count-clause-reads g c =
    tells_again _ _ _ _ (reads_then _ _ _ _ _ c.loop-piece.invariant.reads c.in_err-count.ensures.reads) c.from_residual.ensures.1

pub returns-then-count-buf-clause-read : goal.returns-then-count-buf-clause-read
returns-then-count-buf-clause-read g c = λ lane fresh.
    let before = c.loop-piece.invariant in
    read_last _ _ _ lane _ _ _ _ _ (before.read lane fresh) before.reads.same (c.in_ok-count.ensures.read lane) (omega (arith, before.room, c.if-count-buf.true, c.read_piece.auto.buf))

pub loop-piece-preserved : goal.loop-piece-preserved
loop-piece-preserved g c =
    let before = c.loop-piece.invariant in
    let step = c.in_ok-count.ensures in
    record {
      room = omega (arith, before.room, c.read_piece.auto.buf);
      space = step.space;
      read = λ lane fresh. read_on _ _ _ lane _ _ _ _ _ (before.read lane fresh) before.reads.same (step.read lane) _ (omega (arith, before.room)) (omega (arith, before.room, c.if-count-buf.false, c.read_piece.auto.buf));
      same_reference = step.same_reference ∙ before.same_reference;
      reads = reads_then _ _ _ _ _ before.reads (done_telling _ _ _ step.reads);
    }

use Rattle.std.proofs.lemmas.List.{take_rest}
use Rattle.stream_reader.proofs.buffer.Buffer.look_at.Goals as goal

pub returns-in-Whole-clause-looks : goal.returns-in-Whole-clause-looks
returns-in-Whole-clause-looks c = rw (take_rest, c.held-in-Whole.ensures, c.sum_at-sum.ensures.same) at c.look_at_front_by.ensures

pub returns-in-No-clause-looks : goal.returns-in-No-clause-looks
returns-in-No-clause-looks c = rw (take_rest, c.held.ensures) at c.in-No.ensures

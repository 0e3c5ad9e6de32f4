use Rattle.stream_end.proofs.InsideLemmas.{is_inside, inside_is, held_back, cut_off, not_inside, text_not_inside}
use Rattle.stream_end.proofs.laws.streams_that_end_inside.Goals as goal

pub returns-clause-told : goal.returns-clause-told
returns-clause-told c = λ bytes are. (is_inside 0 bytes, inside_is 0 bytes are)

pub returns-clause-left : goal.returns-clause-left
returns-clause-left c = held_back

pub returns-clause-cut_off : goal.returns-clause-cut_off
returns-clause-cut_off c = cut_off

pub returns-clause-whole : goal.returns-clause-whole
returns-clause-whole c = not_inside

pub returns-clause-text : goal.returns-clause-text
returns-clause-text c = text_not_inside

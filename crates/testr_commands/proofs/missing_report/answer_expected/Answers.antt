use Rattle.testr_commands.proofs.missing_report.answer_expected.Goals as goal

pub returns-in-None-clause-spoken : goal.returns-in-None-clause-spoken
returns-in-None-clause-spoken g c = λ ok. rw c.in-None.is (c.answer_behind.ensures.spoken ok)

pub returns-in-None-clause-deaf : goal.returns-in-None-clause-deaf
returns-in-None-clause-deaf g c = λ deaf. rw c.in-None.is (c.answer_behind.ensures.silent deaf)

pub returns-in-Some-clause-spoken : goal.returns-in-Some-clause-spoken
returns-in-Some-clause-spoken g c = λ ok. rw c.in-Some.is (c.answer_left_behind.ensures.spoken ok)

pub returns-in-Some-clause-deaf : goal.returns-in-Some-clause-deaf
returns-in-Some-clause-deaf g c = λ deaf. rw c.in-Some.is (c.answer_left_behind.ensures.deaf deaf)

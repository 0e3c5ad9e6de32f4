use Rattle.std.proofs.Common.{◌≡◌, ◌-◌, length, take, drop, arith}
use Rattle.std.proofs.lemmas.List.{length-take, length-drop}
use Rattle.stream_reader.proofs.RunLemmas.{search_passed}
use Rattle.stream_reader.proofs.foreign_bytes.next_signature.Goals as goal

pub returns-in-Some-clause-passed : goal.returns-in-Some-clause-passed
returns-in-Some-clause-passed c = λ i low high is.
    let found = c.in-Some.ensures.0 in
    let len = length-take (c.args.room - c.args.from) (drop c.args.from c.args.bytes.now) in
    search_passed c.args.bytes.now c.args.from (c.args.room - c.args.from) c.in-Some.place i found.before (omega (arith, found.high, len)) low high is

pub returns-in-None-clause-passed : goal.returns-in-None-clause-passed
returns-in-None-clause-passed c = λ i low high is.
    let len : length (take (c.args.room - c.args.from) (drop c.args.from c.args.bytes.now)) ≡ c.args.room - c.args.from = omega (arith, length-take (c.args.room - c.args.from) (drop c.args.from c.args.bytes.now), length-drop c.args.from c.args.bytes.now) in
    search_passed c.args.bytes.now c.args.from (c.args.room - c.args.from) (c.args.room - c.args.from) i (rw len at c.in-None.ensures) (omega arith) low (omega arith) is

use Rattle.std.proofs.Common.{◌-◌, inl, inr, arith}
use Rattle.stream_end.proofs.CharacterLemmas.{alike_from}
use Rattle.stream_end.proofs.character.last_begin.Goals as goal

pub returns-then-byte-lt128-clause-alike : goal.returns-then-byte-lt128-clause-alike
returns-then-byte-lt128-clause-alike c missing =
    alike_from missing (c.loop-place.place - 1) c.args.foreign.now (omega arith) (elim c.then-byte-lt128.either [
      | inl low ↦ inl low
      | inr high ↦ inr high.1
    ])

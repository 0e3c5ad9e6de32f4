use Rattle.sub_number.specs.Texts.{ArePlain}
use Rattle.sub_number.proofs.ascii.are_plain_by_one.Given as goal

abbrev pub invariant-loop-byte : goal.invariant-loop-byte
invariant-loop-byte l = ArePlain l.bytes 0 l.byte-index

use Rattle.sub_number.proofs.ChecksumLemmas.{by_halves}
use Rattle.sub_number.proofs.checksum.after_sixteen.Goals as goal

pub returns : goal.returns
returns c = rw (c.after_eight.ensures, c.after_eight-2.ensures, c.split_at.ensures.front, c.split_at.ensures.back) (by_halves 0 8 c.args.register c.args.bytes.now c.requires.sixteen)

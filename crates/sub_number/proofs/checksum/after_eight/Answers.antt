use Rattle.sub_number.proofs.ChecksumLemmas.{by_halves}
use Rattle.sub_number.proofs.checksum.after_eight.Goals as goal

pub returns : goal.returns
returns c = rw (c.after_four.ensures, c.after_four-2.ensures, c.split_at.ensures.front, c.split_at.ensures.back) (by_halves c.args.table 4 c.args.register c.args.bytes.now c.requires.eight)

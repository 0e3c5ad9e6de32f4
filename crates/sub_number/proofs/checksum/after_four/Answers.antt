use Rattle.std.proofs.Common.{arith}
use Rattle.sub_number.proofs.ChecksumLemmas.{four_by_tables}
use Rattle.sub_number.proofs.checksum.after_four.Goals as goal

pub returns : goal.returns
returns c =
    rw (c.shifted_byte.ensures, c.shifted_byte-2.ensures, c.shifted_byte-3.ensures, c.shifted_byte-4.ensures, c.from.ensures, c.from-2.ensures, c.from-3.ensures, c.from-4.ensures)
    (four_by_tables c.args.table c.args.register c.args.bytes.now c.ranges.register.fits c.requires.four (λ i. omega (arith, c.type_inv.bytes i)))

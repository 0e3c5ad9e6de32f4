use Rattle.std.proofs.Common.{◌<◌, ◌^◌, length, arith}
use Rattle.std.proofs.lemmas.Bool.Decides.{nat_tests}
use Rattle.packet_codec.proofs.RespelledLemmas.{given_tags, given_count, given_short}
use Rattle.packet_codec.proofs.respelled_bytes.put_given_tags.Goals as goal

pub overflow_cast-tags : goal.overflow_cast-tags
overflow_cast-tags c =
    let some : 0 < length c.args.tags.now = grind (arith, nat_tests) in
    let short = rw (given_tags c.args.tags.now some) at c.requires in
    omega (arith, short, given_count c.args.tags.now)

pub write_number-requires : goal.write_number-requires
write_number-requires c =
    let some : 0 < length c.args.tags.now = grind (arith, nat_tests) in
    let short = rw (given_tags c.args.tags.now some) at c.requires in
    omega (arith, short, given_count c.args.tags.now)

pub put_slices-requires : goal.put_slices-requires
put_slices-requires c =
    let some : 0 < length c.args.tags.now = grind (arith, nat_tests) in
    let short = rw (given_tags c.args.tags.now some) at c.requires in
    given_short c.args.tags.now (2 ^ 30) short

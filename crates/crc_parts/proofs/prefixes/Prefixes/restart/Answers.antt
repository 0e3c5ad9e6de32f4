use Rattle.std.proofs.Common.{◌<◌, length, refl, arith, get_or-set_same}
use Rattle.crc_parts.proofs.PrefixLemmas.{start_along}
use Rattle.crc_parts.proofs.prefixes.Prefixes.restart.Goals as goal

pub returns : goal.returns
returns c =
    let some : 0 < length c.self.inside.marks.items = omega (arith, c.self.invariant.0) in
    start_along _ refl refl (get_or-set_same c.self.inside.marks.items 0 4294967295 0 some)

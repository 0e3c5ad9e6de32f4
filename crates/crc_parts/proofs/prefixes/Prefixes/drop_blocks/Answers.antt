use Rattle.std.proofs.Common.{◌≡◌, ◌-◌, ◌*◌, ◌++◌, take, refl, arith}
use Rattle.crc_parts.specs.Prefixes.{stride}
use Rattle.crc_parts.proofs.PrefixLemmas.{let_go_along}
use Rattle.crc_parts.proofs.prefixes.Prefixes.drop_blocks.Goals as goal

pub returns : goal.returns
returns c = λ bytes along.
    let before = along.0 in
    let some = rw (← c.self.view_is) at c.requires in
    let old = rw (← c.self.view_is) at along.1 in
    let copied = c.copy_within.ensures.by_index.0 in (
      before ++ take (stride * c.args.blocks) bytes,
      let_go_along _ _ c.args.blocks before bytes old some refl refl (λ i low. let e : i - 0 ≡ i = omega arith in rw e at (copied i 0 (omega arith) (omega (arith, low)))),
    )

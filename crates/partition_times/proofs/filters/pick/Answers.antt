use Rattle.std.proofs.Common.{◌≡◌, length, ap, ◌∙◌, arith}
use Rattle.std.proofs.lemmas.List.{take_all}
use Rattle.partition_times.proofs.PatternLemmas.{all_picked}
use Rattle.partition_times.specs.Compiled.{is_picked}
use Rattle.std.specs.List.{filter}
use Rattle.partition_times.proofs.filters.pick.Goals as goal

pub returns : goal.returns
returns c =
    let each : c.loop-id.picked ≡ filter (is_picked c.args.filters.now) c.args.ids.now = c.loop-id.invariant.picked ∙ ap (filter (is_picked c.args.filters.now)) (take_all c.loop-id.id-index c.args.ids.now (omega (arith, ap length c.list-id-items.ensures))) in
    each ∙ all_picked c.args.filters.now c.args.ids.now

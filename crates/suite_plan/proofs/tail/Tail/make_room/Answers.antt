use Rattle.std.proofs.Common.{rules, ◌≡◌, ◌<◌, ◌-◌, ◌∙◌, length, take, ap, arith, refl}
use Rattle.std.specs.List.{copy_within}
use Rattle.suite_plan.proofs.TailLemmas.{front_gone}
use Rattle.suite_plan.proofs.tail.Tail.make_room.Goals as goal

pub returns-then-len-count-gt-MOST_HELD-clause-same : goal.returns-then-len-count-gt-MOST_HELD-clause-same
returns-then-len-count-gt-MOST_HELD-clause-same c =
    let items = c.args.self.now.bytes.items in
    let many : 65536 < length items = omega (arith, c.if-len-count-gt-MOST_HELD.true, c.requires.few, c.len.ensures) in
    let copied : c.copy_within.new.self.items ≡ copy_within items (length items - 65536) (length items) 0 = search rules in
    let cut : c.truncate.new.self.items ≡ take 65536 c.copy_within.new.self.items = search rules in
    λ text has. front_gone text c.args.self.now _ many (cut ∙ ap (take 65536) copied) refl has

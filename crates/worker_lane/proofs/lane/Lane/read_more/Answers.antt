use Rattle.std.proofs.Common.{rules, ◌≡◌, ◌<◌, length, take, ap, ◌∙◌}
use Rattle.std.proofs.lemmas.List.{take_at}
use Rattle.worker_lane.proofs.LaneLemmas.{ended_if, broken_if, read_same, waited_same, failed_same}
use Rattle.worker_lane.proofs.lane.Lane.read_more.Goals as goal

pub returns-in-Ok-eq0-clause-same : goal.returns-in-Ok-eq0-clause-same
returns-in-Ok-eq0-clause-same g c =
    let some : 0 < length c.read.new.buf = search rules in
    let none : c.in-Ok-eq0.field-0 ≡ 0 = search rules in
    let ended = ended_if _ (g.C.Child.seen c.args.self.now.child).told c.in-Ok-eq0.field-0 c.read.new.buf some c.in-Ok-eq0.ensures.end none in
    waited_same _ (g.C.Child.seen c.read.new.self).told _ _ c.args.self.now.course c.close.new.self c.wait_for_child-ending.result c.in-Ok-eq0.ensures.bytes ended c.wait_for_child-ending.ensures.same c.wait_for_child-ending.ensures.told c.close.ensures.left

pub returns-in-Ok-clause-same : goal.returns-in-Ok-clause-same
returns-in-Ok-clause-same g c =
    let size : length c.read.new.buf ≡ c.args.self.now.buffer.len = search rules in
    read_same (g.C.Child.seen c.args.self.now.child).told _ _ _ c.args.self.now.course c.feed.new.self c.in-Ok.ensures.bytes c.feed.ensures.left (ap (take c.in-Ok.count) (c.deref.ensures.value ∙ take_at c.read.new.buf _ c.args.self.now.buffer.len size))

pub returns-in-Err-clause-same : goal.returns-in-Err-clause-same
returns-in-Err-clause-same g c =
    let some : 0 < length c.read.new.buf = search rules in
    let broken = broken_if (g.C.Child.seen c.args.self.now.child).told c.in-Err.field-0 c.read.new.buf some c.in-Err.ensures.end in
    failed_same _ (g.C.Child.seen c.read.new.self).told _ c.args.self.now.course c.close-in-Err.new.self c.in-Err.ensures.bytes broken c.stop_child.ensures.finish c.close-in-Err.ensures.left

use Rattle.std.proofs.Common.{rules, refl, ◌≡◌, length, take, drop, ◌-◌, ◌+◌, ap, ◌∙◌}
use Rattle.edge_io.proofs.BytesLemmas.{moved_front}
use Rattle.edge_io.proofs.plan_child.PlanChildChild.read.Goals as goal

pub returns-then-count-gt0-clause-bytes : goal.returns-then-count-gt0-clause-bytes
returns-then-count-gt0-clause-bytes c =
    let n = c.min-count.result in
    let s = c.args.self.now.start in
    let copied = c.copy_from_slice.ensures.after ∙ ap (λ xs. take (s + n - s) (drop s xs)) c.bytes-bytes.ensures in
    let size : n ≡ length c.copy_from_slice.new.self = search rules in
    record { bytes = moved_front _ _ _ _ _ copied size; finish = refl }

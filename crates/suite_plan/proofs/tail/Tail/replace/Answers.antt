use Rattle.std.proofs.Common.{◌≡◌, ◌-◌, length, drop, refl}
use Rattle.std.proofs.lemmas.List.{take_rest}
use Rattle.suite_plan.proofs.TailLemmas.{piece_alone}
use Rattle.suite_plan.proofs.tail.Tail.replace.Goals as goal

pub returns : goal.returns
returns c =
    let items : c.extend_from_slice.new.self.items ≡ drop (length c.args.piece.now - 65536) c.args.piece.now = rw (c.clear.ensures.items, take_rest) at c.in_ok-extend_from_slice.ensures.items in
    record { replaced = λ text. piece_alone text c.args.piece.now _ c.requires.many items refl }

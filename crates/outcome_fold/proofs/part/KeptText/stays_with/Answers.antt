use Rattle.std.proofs.Common.{◌≡◌, ◌≤◌, ◌++◌, take, length, arith, rules}
use Rattle.std.proofs.lemmas.Bool.{leb-true, eqb-true}
use Rattle.outcome_fold.proofs.TextLemmas.{none_more, no_room}
use Rattle.outcome_fold.proofs.part.KeptText.stays_with.Goals as goal

pub returns-then-piece-eq0 : goal.returns-then-piece-eq0
returns-then-piece-eq0 c = λ yes.
    let none : length c.args.piece.now ≡ 0 = search rules in
    let small : c.len-size.result ≤ 1024 = leb-true c.len-size.result 1024 yes in
    let few : length c.self.inside.bytes.items ≤ 1024 = omega (arith, c.len-size.ensures, small) in
    let kept : take 1024 (c.self.inside.bytes.items ++ c.args.piece.now) ≡ c.self.inside.bytes.items = none_more 1024 c.self.inside.bytes.items c.args.piece.now none few in
    cc

pub returns-else-piece-eq0 : goal.returns-else-piece-eq0
returns-else-piece-eq0 c = λ yes.
    let whole : c.len-size.result ≡ 1024 = eqb-true c.len-size.result 1024 yes in
    let full : length c.self.inside.bytes.items ≡ 1024 = omega (arith, c.len-size.ensures, whole) in
    let kept : take 1024 (c.self.inside.bytes.items ++ c.args.piece.now) ≡ c.self.inside.bytes.items = no_room 1024 c.self.inside.bytes.items c.args.piece.now full in
    cc

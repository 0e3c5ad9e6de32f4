use Rattle.std.proofs.Common.{List, ℕ, ◌+◌, ◌-◌, take, drop, ap, rules}
use Rattle.worker_lane.proofs.WaitingLemmas.{piece_is, puts_piece}
use Rattle.worker_lane.proofs.waiting_note.put_piece.Goals as goal

pub returns-clause-puts : goal.returns-clause-puts
returns-clause-puts c =
    let done = c.in_ok-put_stdout.ensures in
    let given = c.args.spelling.now.given in
    let size = c.min-size.result in
    let piece = take ((given + size) - given) (drop given c.deref.result.now) in
    let is = piece_is c.args.spelling.now.bytes.items piece given size c.requires.some (search rules) (ap (λ (l : List ℕ). take ((given + size) - given) (drop given l)) c.deref.ensures.value) in
    puts_piece c.args.lane c.args.spelling.now (record { bytes = c.args.spelling.now.bytes; given = given + size }) piece _ _ c.requires.some is (search rules) done.has_packet done.ok

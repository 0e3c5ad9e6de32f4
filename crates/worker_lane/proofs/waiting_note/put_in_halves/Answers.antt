use Rattle.std.proofs.Common.{List, ℕ, ◌++◌, ap, ◌∙◌}
use Rattle.packet_codec.specs.Canonical.{canonical}
use Rattle.worker_lane.specs.Waiting.{waiting_events}
use Rattle.worker_lane.proofs.WaitingLemmas.{halved, puts_first_half}
use Rattle.worker_lane.proofs.waiting_note.put_in_halves.Goals as goal

pub returns-clause-sound : goal.returns-clause-sound
returns-clause-sound c =
    let (e, spelled) = c.requires.packet in
    let bytes = c.in_ok-put_shortest.ensures.ok e spelled ∙ ap (λ (l : List ℕ). l ++ canonical e) c.new-bytes.ensures.items in
    rw c.wait_for.ensures (halved c.args.packet.now e c.requires.bytes spelled _ (c.requires.halves e spelled) bytes)

pub returns-clause-puts : goal.returns-clause-puts
returns-clause-puts c = λ e spelled.
    let bytes = c.in_ok-put_shortest.ensures.ok e spelled ∙ ap (λ (l : List ℕ). l ++ canonical e) c.new-bytes.ensures.items in
    puts_first_half c.args.packet.now e c.requires.bytes spelled c.args.lane _ c.wait_for.new.waiting _ _ c.requires.lane (c.requires.too_long e spelled) (c.requires.halves e spelled) bytes (ap (waiting_events c.args.lane) c.wait_for.ensures) (c.in_ok-put_first_half.ensures.ok e spelled)

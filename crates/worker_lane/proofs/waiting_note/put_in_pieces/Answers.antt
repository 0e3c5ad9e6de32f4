use Rattle.std.proofs.Common.{List, ℕ, ◌++◌, refl, ap, ◌∙◌}
use Rattle.packet_codec.specs.Canonical.{canonical}
use Rattle.worker_lane.specs.Waiting.{waiting_events}
use Rattle.worker_lane.proofs.WaitingLemmas.{puts_in_pieces}
use Rattle.worker_lane.proofs.waiting_note.put_in_pieces.Goals as goal

pub returns-clause-puts : goal.returns-clause-puts
returns-clause-puts c = λ e spelled.
    let bytes = c.in_ok-put_shortest.ensures.ok e spelled ∙ ap (λ (l : List ℕ). l ++ canonical e) c.new-bytes.ensures.items in
    puts_in_pieces c.args.lane e (record { bytes = c.put_shortest.new.out; given = 0 }) c.put_piece.new.spelling c.wait_for.new.waiting _ _ (c.requires.too_long e spelled) (c.requires.halves e spelled) bytes refl c.in_ok-put_piece.ensures.puts (ap (waiting_events c.args.lane) c.wait_for.ensures ∙ c.left_of.ensures.events c.args.lane)

use Rattle.std.proofs.Common.{◌≡◌, ◌∙◌, false, ap, refl}
use Rattle.stream_reader.proofs.RoomLemmas.{spent_short}
use Rattle.old_runs.proofs.StreamLemmas.{stream_more}
use Rattle.old_runs.proofs.stream.OldStream.feed_part.Goals as goal

pub returns-clause-going_on : goal.returns-clause-going_on
returns-clause-going_on c =
    let going_on : c.take_notes.new.self.reader.ended ≡ false = c.take_notes.ensures.ended ∙ ap (λ h. h.ended) c.feed.ensures in
    record { going_on = going_on; held = spent_short _ _ going_on c.in_ok-take_notes.ensures.spent }

pub returns-clause-fed : goal.returns-clause-fed
returns-clause-fed c bytes given h =
    stream_more c.args.self.now _ c.take_notes.new.self bytes c.args.part.now _ _ given c.are_bytes.ensures h c.feed.ensures refl c.in_ok-take_notes.ensures.taken

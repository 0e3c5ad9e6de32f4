use Rattle.stream_reader.proofs.FrontLemmas.{are_from_fits}
use Rattle.filter_cli.proofs.NotedLemmas.{filtered_more}
use Rattle.filter_cli.proofs.byte_filter.ByteFilterFilter.feed.Goals as goal

pub returns-clause-ok : goal.returns-clause-ok
returns-clause-ok g c = λ fed shown h.
    filtered_more (g.F.NoteFilter.has c.args.self.now.filter) _ (g.F.NoteFilter.plan c.args.self.now.filter) _ c.args.self.now.character _ c.args.self.now.reader.bytes c.args.piece.now fed shown c.feed.new.self c.take_notes.new.reader _ _
    c.in_ok-take_notes.ensures.plan (are_from_fits _ c.type_inv.piece) c.feed.ensures h (c.in_ok-take_notes.ensures.taken h.notes h.taken) c.in_ok-take_notes.ensures.spent c.in_ok-take_notes.ensures.ended

use Rattle.std.proofs.Common.{◌∙◌}
use Rattle.filter_cli.proofs.NotedLemmas.{filtered_all, held_tells}
use Rattle.filter_cli.proofs.byte_filter.ByteFilterFilter.close.Goals as goal

pub returns-clause-text : goal.returns-clause-text
returns-clause-text g c = λ fed shown h.
    filtered_all (g.F.NoteFilter.has c.args.self.filter) (g.F.NoteFilter.has c.take_notes.new.filter) (g.F.NoteFilter.plan c.args.self.filter) (g.F.NoteFilter.plan c.take_notes.new.filter) c.args.self.character _ c.args.self.reader.bytes fed shown c.finish.new.self c.take_notes.new.reader _ c.take_notes.new.text.items _ c.in_ok-status.status
    c.in-Ok.ensures.plan c.finish.ensures h (c.in-Ok.ensures.taken h.notes h.taken) c.in-Ok.ensures.spent c.in_ok-status.ensures.text c.in_ok-status.ensures.status

pub returns-clause-inside : goal.returns-clause-inside
returns-clause-inside g c = λ fed shown h. c.stands_inside-inside.ensures ∙ held_tells c.args.self.character fed c.args.self.reader.bytes h.ends

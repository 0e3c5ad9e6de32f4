use Rattle.suite_causes.proofs.RanLemmas.{ids_at_end}
use Rattle.suite_causes.proofs.ran_reader.RanReader.close.Goals as goal

pub returns : goal.returns
returns c = λ lane bytes has.
    ids_at_end c.first_of_each.result lane bytes c.args.self c.finish.new.self c.gather_notes.new.reader c.gather_notes.new.ids has c.finish.ensures c.in_ok-gather_notes.ensures.gathered c.in_ok-gather_notes.ensures.spent c.first_of_each.ensures.firsts

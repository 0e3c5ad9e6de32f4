use Rattle.suite_plan.proofs.GatherLemmas.{all_listed}
use Rattle.suite_plan.proofs.listing_reader.ListingReader.close.Goals as goal

pub returns : goal.returns
returns c = λ bytes has.
    all_listed bytes c.args.self c.finish.new.self c.gather_notes.new.reader c.gather_notes.new.listed has c.finish.ensures c.in_ok-gather_notes.ensures.gathered c.in_ok-gather_notes.ensures.spent

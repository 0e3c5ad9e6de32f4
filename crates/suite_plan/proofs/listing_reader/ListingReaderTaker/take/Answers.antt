use Rattle.stream_reader.proofs.FrontLemmas.{are_from_fits}
use Rattle.suite_plan.proofs.GatherLemmas.{piece_gathered}
use Rattle.suite_plan.proofs.listing_reader.ListingReaderTaker.take.Goals as goal

pub returns-clause-ok : goal.returns-clause-ok
returns-clause-ok c = λ bytes has. piece_gathered bytes c.args.piece.now c.args.self.now _ c.feed.new.self (are_from_fits _ c.type_inv.piece) has c.feed.ensures c.in_ok-gather_notes.ensures.gathered

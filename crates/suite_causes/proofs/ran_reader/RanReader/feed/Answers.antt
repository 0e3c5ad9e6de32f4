use Rattle.std.proofs.Common.{refl}
use Rattle.stream_reader.proofs.FrontLemmas.{are_from_fits}
use Rattle.suite_causes.proofs.RanLemmas.{piece_gathered}
use Rattle.suite_causes.proofs.ran_reader.RanReader.feed.Goals as goal

pub returns-clause-has : goal.returns-clause-has
returns-clause-has c = λ lane bytes has. piece_gathered c.gather_notes.result lane bytes c.args.piece.now c.args.self.now _ c.feed.new.self (are_from_fits _ c.type_inv.piece) has c.feed.ensures refl c.gather_notes.ensures.gathered

use Rattle.stream_reader.proofs.FrontLemmas.{are_from_fits}
use Rattle.last_failures.proofs.GatherLemmas.{piece_gathered}
use Rattle.last_failures.proofs.run_parts.RunParts.feed.Goals as goal

pub returns-clause-has : goal.returns-clause-has
returns-clause-has c = λ bytes has. piece_gathered c.gather_notes.result c.args.wanted.now bytes c.args.piece.now c.args.self.now _ c.feed.new.self (are_from_fits _ c.type_inv.piece) has c.feed.ensures c.gather_notes.ensures.gathers

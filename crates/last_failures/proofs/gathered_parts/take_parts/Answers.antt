use Rattle.std.proofs.Common.{◌∷◌, ◌++◌, [], sym, subst}
use Rattle.stream_reader.specs.Notes.{event_of}
use Rattle.last_failures.specs.Gathering.{HasParts}
use Rattle.last_failures.proofs.GatherLemmas.{foreign_passes}
use Rattle.last_failures.proofs.gathered_parts.take_parts.Goals as goal

pub returns-in-Foreign : goal.returns-in-Foreign
returns-in-Foreign c = λ seen has.
    subst (λ n. HasParts c.args.wanted.now c.args.parts.now (seen ++ event_of n ∷ [])) (sym c.in-Foreign.is) (foreign_passes c.args.wanted.now seen _ c.args.parts.now has)

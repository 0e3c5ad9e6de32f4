-- A spot that is lent.
use Rattle.build_notes.specs.Notes as notes
use Rattle.build_notes.specs.declared.spots.Spot.{Spot}

-- what it says
abbrev pub shown_spot : Spot → notes.Spot
shown_spot spot = record { path = spot.path.now; line = spot.line.now }

-- The lines that are left, behind what was found, give what all give.
use Rattle.std.proofs.Common.{◌≡◌, option_map}
use Rattle.std.specs.List.{fold}
use Rattle.build_notes.specs.Notes.{spot_after, last_spot}
use Rattle.build_notes.specs.Seen.{shown_spot}
use Rattle.build_notes.proofs.spots.last_spot.Given as goal

abbrev pub invariant-loop-line : goal.invariant-loop-line
invariant-loop-line l = fold spot_after (option_map shown_spot l.found) l.lines ≡ last_spot l.fn.text

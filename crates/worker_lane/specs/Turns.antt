-- What one turn of a lane gives.
use Rattle.std.specs.Prelude.{Option, Some, None}
use Rattle.worker_lane.specs.declared.lot.Lot.{Lot}
use Rattle.worker_lane.specs.declared.turn.Turn.{Turn}
use Rattle.worker_lane.specs.declared.turn.Turn.TheVariants as turn

-- the lot that it gave, if any
abbrev pub turn_lot : Turn → Option Lot
turn_lot (turn.Given lot) = Some lot
turn_lot turn.Read = None
turn_lot turn.Past = None

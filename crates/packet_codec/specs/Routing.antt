-- An event under the route of a lane (testtools' routing codes).
use Rattle.std.specs.Prelude.{ℕ, Option, Some, None, List, ◌++◌, codes}
use Rattle.std.specs.Fmt.{decimal}
use Rattle.packet_codec.specs.declared.event.Event.{Event}

-- the lane's number, and behind a slash the route that was there
abbrev pub route_under : ℕ → Option (List ℕ) → List ℕ
route_under lane None = decimal lane
route_under lane (Some route) = decimal lane ++ codes "/" ++ route

-- the event under this lane
abbrev pub under : ℕ → Event → Event
under lane e = record e { route = Some (route_under lane e.route) }

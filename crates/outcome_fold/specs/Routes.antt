-- Lists of events that agree route by route, and what their rows say (docs/FORMATS.md, "The fold").
use Rattle.std.specs.Prelude.{◌≡◌, ℕ, Bool, Option, List}
use Rattle.std.specs.List.{filter}
use Rattle.std.specs.Ordering.{eq_by_cmp}
use Rattle.packet_codec.specs.declared.event.Event.{Event}
use Rattle.outcome_fold.specs.Order.{route_cmp}
use Rattle.outcome_fold.specs.Rows.{rows_of}
use Rattle.outcome_fold.specs.Answers.{failing_of, passed_of, times_of, seen_tags_of, counts_of, status_of}

-- the event has this route, or none where this is none
abbrev pub is_of_route : Option (List ℕ) → Event → Bool
is_of_route route e = eq_by_cmp route_cmp route e.route

-- the events of the route, in their order
abbrev pub of_route : Option (List ℕ) → List Event → List Event
of_route route events = filter (is_of_route route) events

-- Of each route the lists have the same events in the same order. Nothing is said of the order of events of two routes.
abbrev pub AgreeByRoute : List Event → List Event → Type 0
AgreeByRoute events others = (route : Option (List ℕ)) → of_route route events ≡ of_route route others

-- the rows are the same, and so is all that they say
pub record SaySame (events others : List Event) : Type 0 where
  pub rows : rows_of events ≡ rows_of others
  pub failing : failing_of (rows_of events) ≡ failing_of (rows_of others)
  pub passed : passed_of (rows_of events) ≡ passed_of (rows_of others)
  pub times : times_of (rows_of events) ≡ times_of (rows_of others)
  pub tags : seen_tags_of (rows_of events) ≡ seen_tags_of (rows_of others)
  pub counts : (filter_tags : List (List ℕ)) → counts_of filter_tags (rows_of events) ≡ counts_of filter_tags (rows_of others)
  pub status : status_of (rows_of events) ≡ status_of (rows_of others)

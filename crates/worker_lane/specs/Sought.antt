-- The ids of a lane's job of which nothing was heard yet, by the form in which they are kept.
use Rattle.std.specs.Prelude.{◌≡◌, ◌⊎◌, ℕ, ◌<◌, ◌≤◌, true, false, Option, Some, IfSome, IsSomeAnd, List, [], length, drop, All, slice_index_or}
use Rattle.std.specs.List.{filter}
use Rattle.outcome_fold.specs.Order.{among}
use Rattle.packet_codec.specs.declared.event.Event.{Event}
use Rattle.worker_lane.specs.Lost.{longest_id, is_exists}

-- of the ids behind the first ones those that are unheard
abbrev pub unheard_of : (ids : List (List ℕ)) → (passed : ℕ) → (unheard : List (List ℕ)) → List (List ℕ)
unheard_of ids passed unheard = filter (among unheard) (drop passed ids)

-- each can be named
abbrev pub AreShort : (ids : List (List ℕ)) → Type 0
AreShort ids = All (λ id. length id ≤ longest_id) ids

-- the id, where there is one, was heard of
abbrev pub IsHeard : (unheard : List (List ℕ)) → Option (List ℕ) → Type 0
IsHeard unheard latest = IfSome latest (λ id. among unheard id ≡ false)

-- the event says no more of a test than that it exists, or it is of this id
abbrev pub SaysNothing : Option (List ℕ) → Event → Type 0
SaysNothing latest e = (is_exists e.status ≡ true) ⊎ IsSomeAnd latest (λ id. e.id ≡ Some id)

-- from one place to another nothing is unheard, and the id that stands there, if one does, is
pub record IsFirstUnheard (ids unheard : List (List ℕ)) (passed place : ℕ) : Type 0 where
  pub same : unheard_of ids passed unheard ≡ unheard_of ids place unheard
  pub found : place < length ids → among unheard (slice_index_or ids place []) ≡ true

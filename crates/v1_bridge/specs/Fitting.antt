-- Lines, pieces and what is known behind them, short enough for events that have packets.
use Rattle.std.specs.Prelude.{◌≡◌, ℕ, ◌≤◌, false, IfSome, List, [], length}
use Rattle.std.specs.List.{sum_by}
use Rattle.outcome_fold.specs.Order.{among}
use Rattle.v1_bridge.specs.declared.part.Part.{Part}
use Rattle.v1_bridge.specs.declared.details_stage.Place.{Place}
use Rattle.v1_bridge.specs.declared.details_stage.Place.TheVariants as place
use Rattle.v1_bridge.specs.declared.details_stage.Stage.{Stage}
use Rattle.v1_bridge.specs.declared.details_stage.Stage.TheVariants as stage
use Rattle.v1_bridge.specs.declared.details_stage.Details.{Details}
use Rattle.v1_bridge.specs.declared.details_stage.OpenTest.{OpenTest}
use Rattle.v1_bridge.specs.Reading.{State}

-- tags of a set: none is empty, and they have no more bytes than a set may have
pub record AreShortTags (names : List (List ℕ)) : Type 0 where
  pub some : among names [] ≡ false
  pub few : sum_by length names ≤ 65536

-- a part whose type, name and bytes are short
pub record IsShortPart (p : Part) : Type 0 where
  pub mime : length p.mime ≤ 131072
  pub name : length p.name ≤ 131072
  pub held : length p.held ≤ 131072

-- the beginning of a size is short
abbrev pub IsShortPlace : Place → Type 0
IsShortPlace (place.Size so_far) = length so_far ≤ 10
IsShortPlace (place.Chunk left) = Unit {0}

-- what is kept of details is short
abbrev pub IsShortStage : Stage → Type 0
IsShortStage (stage.Lines p) = IsShortPart p
IsShortStage stage.Between = Unit {0}
IsShortStage (stage.Typed mime) = length mime ≤ 131072
IsShortStage (stage.Bytes p place) = IsShortPart p × IsShortPlace place

-- the same of details, by the stage at which they stand
abbrev pub AreShortDetails : Details → Type 0
AreShortDetails d = IsShortStage d.stage

-- what is kept of the open test is short
pub record IsShortTest (t : OpenTest) : Type 0 where
  pub id : length t.id ≤ 131072
  pub tags : AreShortTags t.tags
  pub details : IfSome t.details AreShortDetails

-- what is known behind some lines is short
pub record IsShortState (s : State) : Type 0 where
  pub tags : AreShortTags s.tags
  pub open_test : IfSome s.open_test IsShortTest

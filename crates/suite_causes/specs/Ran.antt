-- The tests that began to run on a lane of a stored run, while it is read (docs/FORMATS.md, "Causes" and "Streams").
use Rattle.std.specs.Prelude.{◌≡◌, ℕ, ◌≤◌, Option, None, List, ◌++◌, length, take, drop, IsSomeAnd, if◌then◌else◌}
use Rattle.std.specs.List.{filter_map}
use Rattle.edge_io.specs.Disk.{Folder}
use Rattle.packet_codec.specs.Lanes.{is_of_lane, of_lane}
use Rattle.packet_codec.specs.declared.event.Event.{Event}
use Rattle.run_shelf.specs.Repository.{Run, run_at}
use Rattle.stream_reader.specs.Notes.{HasEvents, events_of}
use Rattle.stream_reader.specs.Room.{most_held}
use Rattle.stream_reader.specs.Stream.{Held, BeginsWithNotes, GivesNotes}
use Rattle.stream_reader.specs.declared.note.Note.{Note}
use Rattle.suite_causes.specs.Searching.{TestIds}
use Rattle.suite_causes.specs.Suspects.{ran_id, ran_ids}
use Rattle.suite_causes.specs.declared.ran_reader.RanReader.{RanReader}

-- the ids of the tests that began to run on the lane, one for each event that tells of one
abbrev pub all_ran : (lane : ℕ) → List Event → TestIds
all_ran lane events = filter_map ran_id (of_lane lane events)

-- the id of a test that began to run on the lane, where the event tells of one
abbrev pub ran_on : (lane : ℕ) → Event → Option (List ℕ)
ran_on lane event = if is_of_lane lane event then ran_id event else None

-- the ids that ran on the lane in a run of these bytes
pub record AreRan (lane : ℕ) (bytes : List ℕ) (ids : TestIds) : Type 0 where
  pub events : List Event
  pub told : HasEvents bytes events
  pub ids_are : ids ≡ ran_ids lane events

-- the same of the run of this number, which there is
abbrev pub HasRanAt : (number lane : ℕ) → TestIds → Folder → Type 0
HasRanAt number lane ids s = IsSomeAnd (run_at s.disk.published number) (λ run. AreRan lane run.bytes ids)

-- the next notes were given, and their ids gathered behind those before
pub record GathersRanIds (lane : ℕ) (notes : List Note) (before after : Held) (ids : TestIds) : Type 0 where
  pub all : List Note
  pub given : GivesNotes before notes after all
  pub ids_are : ids ≡ all_ran lane (events_of all)

-- the ids of the notes that the bytes so far decide were gathered, and the rest of the bytes is held
pub record HasRanIds (lane : ℕ) (ran : RanReader) (bytes : List ℕ) : Type 0 where
  pub notes : List Note
  pub lane_is : ran.lane ≡ lane
  pub begins : BeginsWithNotes bytes notes ran.reader.bytes
  pub ids_are : ran.ids ≡ all_ran lane (events_of notes)

-- few enough bytes are held that a piece can be fed
abbrev pub HasRoomForRanIds : RanReader → Type 0
HasRoomForRanIds ran = length ran.reader.bytes ≤ most_held

-- the first bytes of a run were read, up to that place, which is not past its end
abbrev pub HasRanIdsOfFront : (lane place : ℕ) → RanReader → Run → Type 0
HasRanIdsOfFront lane place ran run = (place ≤ length run.bytes) × HasRanIds lane ran (take place run.bytes)

-- the same of the run of this number, which there is
abbrev pub HasRanIdsTo : (number lane place : ℕ) → RanReader → Folder → Type 0
HasRanIdsTo number lane place ran s = IsSomeAnd (run_at s.disk.published number) (HasRanIdsOfFront lane place ran)

-- the bytes of a run from this place on, as many as there are and fit, came behind those before
pub record TakesRanIdsPiece (lane place room count : ℕ) (old new : RanReader) (run : Run) : Type 0 where
  pub size : count ≡ length (take room (drop place run.bytes))
  pub read : (front : List ℕ) → HasRanIds lane old front → HasRanIds lane new (front ++ take room (drop place run.bytes))

-- the same of the run of this number, which there is
abbrev pub ReadsRanIdsOn : (number lane place room count : ℕ) → RanReader → RanReader → Folder → Type 0
ReadsRanIdsOn number lane place room count old new s = IsSomeAnd (run_at s.disk.published number) (TakesRanIdsPiece lane place room count old new)

-- all of the run of this number was read, which there is
abbrev pub HasRanIdsOfRun : (number lane : ℕ) → RanReader → Folder → Type 0
HasRanIdsOfRun number lane ran s = IsSomeAnd (run_at s.disk.published number) (λ run. HasRanIds lane ran run.bytes)

-- What is gathered of a run that is read in pieces: its rows, and the packets of the parts of some tests.
use Rattle.std.specs.Prelude.{◌≡◌, ⊤, ℕ, ◌≤◌, Bool, false, Option, None, Some, List, [], ◌++◌, length, take, drop, IsSomeAnd, if◌then◌else◌}
use Rattle.std.specs.FinMap as fin
use Rattle.std.specs.FinMap.{FinMap}
use Rattle.std.specs.Option.{unwrap_or}
use Rattle.edge_io.specs.Disk.{Folder}
use Rattle.packet_codec.specs.Canonical.{Fits}
use Rattle.packet_codec.specs.declared.event.Event.{Event}
use Rattle.stream_reader.specs.Notes.{HasEvents, events_of}
use Rattle.stream_reader.specs.Room.{most_held}
use Rattle.stream_reader.specs.Stream.{Held, BeginsWithNotes, GivesNotes}
use Rattle.stream_reader.specs.declared.note.Note.{Note}
use Rattle.stream_reader.specs.declared.note.Note.TheVariants as note
use Rattle.outcome_fold.specs.declared.row.Row.{Row}
use Rattle.outcome_fold.specs.declared.test_key.TestKey.{TestKey}
use Rattle.outcome_fold.specs.Order.{test_cmp, among}
use Rattle.outcome_fold.specs.Outcome.{HasFolded}
use Rattle.outcome_fold.specs.Rows.{rows_of}
use Rattle.outcome_fold.specs.TestPackets.{test_of_row}
use Rattle.run_shelf.specs.Repository.{Run, run_at}
use Rattle.last_failures.specs.Parts.{open_part, failed_part, or_else, part_packets, failure_packets}
use Rattle.last_failures.specs.declared.parts.FailedParts.{FailedParts}
use Rattle.last_failures.specs.declared.gathered_parts.GatheredParts.{GatheredParts}
use Rattle.last_failures.specs.declared.run_parts.RunParts.{RunParts}
use Rattle.last_failures.specs.declared.run_parts.RunFailures.{RunFailures}

-- the packets of open parts, by test
abbrev pub open_packets_in : FailedParts → FinMap test_cmp (List ℕ)
open_packets_in parts = fin.from_entries {R = test_cmp} parts.unfinished.entries

-- the packets of the last parts by which tests failed, by test
abbrev pub failed_in : FailedParts → FinMap test_cmp (List ℕ)
failed_in parts = fin.from_entries {R = test_cmp} parts.failed.entries

-- this, where the test's id is one of these
abbrev pub where_among : List (List ℕ) → TestKey → Option (List ℕ) → Option (List ℕ)
where_among wanted test packets = if among wanted test.id then packets else None

-- the id, where there is one, is one of these
abbrev pub is_wanted : List (List ℕ) → Option (List ℕ) → Bool
is_wanted wanted None = false
is_wanted wanted (Some id) = among wanted id

-- the event speaks of a test whose id is one of these
abbrev pub speaks_of_one : List (List ℕ) → Event → Bool
speaks_of_one wanted e = is_wanted wanted e.id

-- the packets of the parts are held of each test whose id is wanted, where these events came
pub record HasParts (wanted : List (List ℕ)) (parts : FailedParts) (seen : List Event) : Type 0 where
  pub open_are : (test : TestKey) → fin.get (open_packets_in parts) test ≡ where_among wanted test (part_packets (open_part test seen))
  pub failed_are : (test : TestKey) → fin.get (failed_in parts) test ≡ where_among wanted test (part_packets (failed_part test seen))

-- the packets of the last part that failed of the test, where one is held
abbrev pub packets_held : FailedParts → TestKey → Option (List ℕ)
packets_held parts test = or_else (fin.get (open_packets_in parts) test) (fin.get (failed_in parts) test)

-- the same of the row's test, none where none is held
abbrev pub packets_of_row : FailedParts → Row → List ℕ
packets_of_row parts row = unwrap_or (packets_held parts (test_of_row row)) []

-- the events were folded, and the packets of their parts are held
pub record HasGatheredParts (wanted : List (List ℕ)) (gathered : GatheredParts) (seen : List Event) : Type 0 where
  pub folded : HasFolded gathered.outcomes seen
  pub parts : HasParts wanted gathered.parts seen

-- the event of the note has a packet
abbrev pub NoteFits : Note → Type 0
NoteFits (note.Event event) = Fits event
NoteFits (note.Foreign bytes) = ⊤

-- the next notes were given, and gathered behind those before
pub record GathersParts (wanted : List (List ℕ)) (notes : List Note) (before after : Held) (gathered : GatheredParts) : Type 0 where
  pub all : List Note
  pub given : GivesNotes before notes after all
  pub gathered_is : HasGatheredParts wanted gathered (events_of all)

-- the notes that the bytes so far decide were gathered, and the rest of the bytes is held
pub record HasPartsOfBytes (wanted : List (List ℕ)) (run : RunParts) (bytes : List ℕ) : Type 0 where
  pub notes : List Note
  pub begins : BeginsWithNotes bytes notes run.reader.bytes
  pub gathered_is : HasGatheredParts wanted run.gathered (events_of notes)

-- few enough bytes are held that a piece can be fed
abbrev pub HasRoomForParts : RunParts → Type 0
HasRoomForParts run = length run.reader.bytes ≤ most_held

-- the rows of a run of these bytes, and of each the packets of the part that failed last of its test, where its id is wanted
pub record IsGatheredOf (wanted : List (List ℕ)) (run : RunFailures) (bytes : List ℕ) : Type 0 where
  pub events : List Event
  pub told : HasEvents bytes events
  pub rows_are : run.rows ≡ rows_of events
  pub packets_are : (row : Row) → packets_of_row run.parts row ≡ (if among wanted row.id then failure_packets events row else [])

-- the same of the run of this number, which there is
abbrev pub IsGatheredAt : (wanted : List (List ℕ)) → ℕ → RunFailures → Folder → Type 0
IsGatheredAt wanted number run s = IsSomeAnd (run_at s.disk.published number) (λ r. IsGatheredOf wanted run r.bytes)

-- the first bytes of a run were read, up to that place, which is not past its end
abbrev pub HasPartsOfFront : (wanted : List (List ℕ)) → (place : ℕ) → RunParts → Run → Type 0
HasPartsOfFront wanted place run r = (place ≤ length r.bytes) × HasPartsOfBytes wanted run (take place r.bytes)

-- the same of the run of this number, which there is
abbrev pub HasPartsTo : (wanted : List (List ℕ)) → (number place : ℕ) → RunParts → Folder → Type 0
HasPartsTo wanted number place run s = IsSomeAnd (run_at s.disk.published number) (HasPartsOfFront wanted place run)

-- the bytes of a run from this place on, as many as there are and fit, came behind those before
pub record TakesPartsPiece (wanted : List (List ℕ)) (place room count : ℕ) (old new : RunParts) (r : Run) : Type 0 where
  pub size : count ≡ length (take room (drop place r.bytes))
  pub read : (front : List ℕ) → HasPartsOfBytes wanted old front → HasPartsOfBytes wanted new (front ++ take room (drop place r.bytes))

-- the same of the run of this number, which there is
abbrev pub ReadsPartsOn : (wanted : List (List ℕ)) → (number place room count : ℕ) → RunParts → RunParts → Folder → Type 0
ReadsPartsOn wanted number place room count old new s = IsSomeAnd (run_at s.disk.published number) (TakesPartsPiece wanted place room count old new)

-- all of the run of this number was read, which there is
abbrev pub HasPartsOfRun : (wanted : List (List ℕ)) → (number : ℕ) → RunParts → Folder → Type 0
HasPartsOfRun wanted number run s = IsSomeAnd (run_at s.disk.published number) (λ r. HasPartsOfBytes wanted run r.bytes)

-- What an output lists, while it is read piece by piece.
use Rattle.std.specs.Prelude.{◌≡◌, ◌≤◌, ⊤, ℕ, pos, List, length, Result, Ok, Err}
use Rattle.edge_io.specs.Children.{Output}
use Rattle.edge_io.specs.declared.child.Finish.TheVariants.{Exit}
use Rattle.stream_reader.specs.declared.note.Note.{Note}
use Rattle.stream_reader.specs.Notes.{events_of}
use Rattle.stream_reader.specs.Room.{most_held}
use Rattle.stream_reader.specs.Stream.{Held, BeginsWithNotes, GivesNotes}
use Rattle.testr_conf.specs.declared.fault.JobFault.{JobFault}
use Rattle.testr_conf.specs.declared.fault.JobFault.TheVariants as job
use Rattle.suite_plan.specs.Children.{IsBroken}
use Rattle.suite_plan.specs.Listed.{HasListed}
use Rattle.suite_plan.specs.Listing.{Lists, HasFailed}
use Rattle.suite_plan.specs.declared.listing_reader.ListingReader.{ListingReader}
use Rattle.suite_plan.specs.declared.listed.Listed.{Listed}
use Rattle.suite_plan.specs.declared.test_listing.ListingRefusal.{ListingRefusal}
use Rattle.suite_plan.specs.declared.test_listing.ListingRefusal.TheVariants.{NoListOption, Spawn, Child, Failed, NoMemory}

-- the next notes were given, and what they tell was gathered behind what was before
pub record GathersListing (notes : List Note) (before after : Held) (listed : Listed) : Type 0 where
  pub all : List Note
  pub given : GivesNotes before notes after all
  pub gathered : HasListed listed (events_of all)

-- what the notes tell that the bytes so far decide was gathered, and the rest of the bytes is held
pub record HasGatheredListing (gathered : ListingReader) (bytes : List ℕ) : Type 0 where
  pub notes : List Note
  pub begins : BeginsWithNotes bytes notes gathered.reader.bytes
  pub listed : HasListed gathered.listed (events_of notes)

-- few enough bytes are held that a piece can be fed
abbrev pub HasRoomForPiece : ListingReader → Type 0
HasRoomForPiece gathered = length gathered.reader.bytes ≤ most_held

-- why there is no list job
abbrev pub refusal_of : JobFault → ListingRefusal
refusal_of (job.NoOption key) = NoListOption
refusal_of job.NoMemory = NoMemory

-- what is answered of a child that was started and has this output
abbrev pub TellsIds : Result (List (List ℕ)) ListingRefusal → Output → Type 0
TellsIds (Ok ids) output = (output.finish ≡ Exit (pos 0)) × Lists ids output.bytes
TellsIds (Err NoListOption) output = ⊥
TellsIds (Err Spawn) output = ⊥
TellsIds (Err Child) output = IsBroken output.finish
TellsIds (Err (Failed status said)) output = HasFailed status said output
TellsIds (Err NoMemory) output = ⊤

-- it is answered of a child that was started
abbrev pub IsOfChild : Result (List (List ℕ)) ListingRefusal → Type 0
IsOfChild (Ok ids) = ⊤
IsOfChild (Err NoListOption) = ⊥
IsOfChild (Err Spawn) = ⊥
IsOfChild (Err Child) = ⊤
IsOfChild (Err (Failed status said)) = ⊤
IsOfChild (Err NoMemory) = ⊤

-- What the events of a listing tell, while they come one by one.
use Rattle.std.specs.Prelude.{◌≡◌, ℕ, List}
use Rattle.std.specs.List.{filter_map}
use Rattle.std.specs.Option.{unwrap_or}
use Rattle.packet_codec.specs.declared.event.Event.{Event}
use Rattle.stream_reader.specs.Notes.{HasEvents}
use Rattle.suite_plan.specs.FirstIds.{HasFirsts}
use Rattle.suite_plan.specs.Listing.{listed_id}
use Rattle.suite_plan.specs.Saying.{ListingText, plain_name, said_by}
use Rattle.suite_plan.specs.Tails.{IsTailOf}
use Rattle.suite_plan.specs.declared.listed.Listed.{Listed}
use Rattle.suite_plan.specs.declared.file_texts.FileTexts.{FileTexts}

-- the last bytes of this text are held, and this name, where none stands for `stdout`
pub record HasSaying (saying : ListingText) (said : FileTexts) : Type 0 where
  pub text : IsTailOf saying.text said.text
  pub name : saying.name ≡ unwrap_or said.name plain_name

-- the ids of these events were gathered, and what they say
pub record HasListed (listed : Listed) (events : List Event) : Type 0 where
  pub ids : HasFirsts listed.ids (filter_map listed_id events)
  pub said : HasSaying (said_by events) listed.said

-- the same of all events of an output of these bytes
pub record HasListedAll (bytes : List ℕ) (listed : Listed) : Type 0 where
  pub events : List Event
  pub told : HasEvents bytes events
  pub tells : HasListed listed events

-- What is recorded of a stream that ends inside a packet (docs/FORMATS.md, "A stream that ends inside a packet").
use Rattle.std.specs.Prelude.{ℕ, Bool, true, false, Some, None, List, [], ◌∷◌, ◌++◌, codes}
use Rattle.packet_codec.specs.declared.event.Event.{Event}
use Rattle.packet_codec.specs.declared.status.Status.TheVariants.{Fail}
use Rattle.packet_codec.specs.Routing.{under}
pub use Rattle.stream_end.specs.Inside.{ends_inside, ends_inside_behind}

-- the text that tells of it
abbrev pub inside_text : List ℕ
inside_text = codes "the output ends inside a packet" ++ 10 ∷ []

-- the event that tells of it
abbrev pub inside_event : Event
inside_event = record {
  stamp = None;
  id = Some (codes "subunit.parser");
  tags = None;
  runnable = true;
  status = Fail;
  mime = Some (codes "text/plain;charset=utf8");
  file = Some (record { name = codes "traceback"; bytes = inside_text });
  eof = false;
  route = None;
}

-- and under a lane
abbrev pub inside_under : (lane : ℕ) → Event
inside_under lane = under lane inside_event

-- what is recorded where the stream ends inside a packet, and where it does not
abbrev pub inside_events : (lane : ℕ) → (inside : Bool) → List Event
inside_events lane true = inside_under lane ∷ []
inside_events lane false = []

-- The events of a stream with other tags (docs/COMMANDS.md, "subunit-tags").
use Rattle.std.specs.Prelude.{ℕ, List, []}
use Rattle.packet_codec.specs.Canonical.{canonical}
use Rattle.stream_reader.specs.Notes.{event_of}
use Rattle.event_sift.specs.declared.tagger.Tagger.{Tagger}
use Rattle.event_sift.specs.Tagging.{tagged_with}
use Rattle.filter_cli.specs.Plan.{Plan}

-- The packet of each event with the added tags and without the removed ones. Foreign bytes are an event here: a piece of
-- the file `stdout`.
abbrev pub tags_plan_of : (add remove : List (List ℕ)) → Plan
tags_plan_of add remove = record {
  gives = λ before note. canonical (tagged_with add remove (event_of note));
  at_end = λ notes. [];
  status = λ notes. 0;
}

-- the same with the tags that a tagger adds and removes
abbrev pub tags_plan : Tagger → Plan
tags_plan tagger = tags_plan_of tagger.add tagger.remove

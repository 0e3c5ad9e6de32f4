-- What is said of a run as it is recorded (docs/COMMANDS.md, "Live lines").
use Rattle.std.specs.Prelude.{◌≡◌, ◌≤◌, ◌+◌, ◌%◌, ℕ, Bool, Option, List, [], ◌++◌, length, All}
use Rattle.std.specs.List.{filter, flat_map}
use Rattle.edge_io.specs.Disk.{Folder}
use Rattle.edge_io.specs.Seen.{Seen}
use Rattle.edge_io.specs.Steps.{Goes, Grown}
use Rattle.live_text.specs.Live.{live_so_far, live_rows, live_end, printed_behind, marks_a_line, rows_done}
use Rattle.live_text.specs.declared.live.Live.{Live}
use Rattle.outcome_fold.specs.Rows.{open_rows}
use Rattle.outcome_fold.specs.Summed.{Sums}
use Rattle.outcome_fold.specs.declared.row.Row.{Row}
use Rattle.outcome_fold.specs.declared.summary.Summary.{Summary}
use Rattle.packet_codec.specs.Canonical.{canonical, IsEvent, Fits}
use Rattle.packet_codec.specs.Lanes.{joined}
use Rattle.packet_codec.specs.Packets.{ArePacketsOf}
use Rattle.packet_codec.specs.declared.event.Event.{Event}
use Rattle.run_ledger.specs.Writing.{HasHeardEvents}
use Rattle.speaker.specs.Speaking.{Takes}
use Rattle.suite_run.specs.Recording.{AddsRows}
use Rattle.suite_run.specs.declared.run_listener.Echo.{Echo}
use Rattle.suite_run.specs.declared.run_listener.Echo.TheVariants.{Nothing, Packets}
use Rattle.suite_run.specs.declared.run_listener.Said.{Said}
use Rattle.suite_run.specs.declared.run_listener.Shown.{Shown}
use Rattle.suite_run.specs.declared.lines.Hearing.{Hearing}
use Rattle.suite_run.specs.declared.lines.Lines.{Lines}
use Rattle.worker_lane.specs.declared.lot.Lot.{Lot}
use Rattle.worker_mux.specs.Callers.{Tape}
use Rattle.worker_mux.specs.Works.{Pairs}

-- what the output gets of these events
abbrev pub echoed : Echo → List Event → List ℕ
echoed Nothing events = []
echoed Packets events = flat_map canonical events

-- what is seen of the two sinks
pub record Sinks : Type 0 where
  pub errors : Seen (List ℕ)
  pub out : Seen (List ℕ)

-- the two sinks of which this is seen
abbrev pub sinks : (errors out : Seen (List ℕ)) → Sinks
sinks errors out = record { errors = errors; out = out }

-- the same, and which of them have failed
pub record Voices : Type 0 where
  pub errors : Seen (List ℕ)
  pub out : Seen (List ℕ)
  pub errors_failed : Bool
  pub out_failed : Bool

-- the two sinks of which this is seen, and of which these have failed
abbrev pub voices : (errors out : Seen (List ℕ)) → (errors_failed out_failed : Bool) → Voices
voices errors out errors_failed out_failed = record { errors = errors; out = out; errors_failed = errors_failed; out_failed = out_failed }

-- of these events the lines were said, without the end, and the packets handed on
pub record SaysUpTo (shown : Shown) (events : List Event) (before : Sinks) (now : Voices) : Type 0 where
  pub errors : Takes (live_so_far shown.live events) before.errors now.errors now.errors_failed
  pub out : Takes (echoed shown.echo events) before.out now.out now.out_failed

-- the same, by what is told of it
abbrev pub SaysAsTold : Shown → List Event → (before after : Sinks) → Said → Type 0
SaysAsTold shown events before after said = SaysUpTo shown events before (voices after.errors after.out said.errors_failed said.out_failed)

-- Behind the draft stand the packets of a merge, whose events were said. This is kept of their rows, and the end of the lines
-- is left to say.
pub record AddsAloud (shown : Shown) (filter_tags : List (List ℕ)) (rests : List (Option (List Lot))) (old new : Option Folder) (before after : Sinks) (said : Said) (summary : Summary) : Type 0 where
  pub rows : List Row
  pub adds : AddsRows rests old new rows
  pub sums : Sums filter_tags rows summary
  pub says : SaysAsTold shown adds.merge.events before after said
  pub end : said.end.items ≡ live_end shown.live (length (rows_done adds.merge.events)) (open_rows adds.merge.events)

-- the same by what is seen of the sinks at the end, and by at most one call of the folder for each packet
pub record AddsSaid (shown : Shown) (filter_tags : List (List ℕ)) (rests : List (Option (List Lot))) (old new : Tape) (before : Sinks) (now : Voices) (end : List ℕ) (summary : Summary) : Type 0 where
  pub rows : List Row
  pub adds : AddsRows rests old.folder.told new.folder.told rows
  pub sums : Sums filter_tags rows summary
  pub few : new.clock ≤ old.clock + length adds.merge.events
  pub says : SaysUpTo shown adds.merge.events before now
  pub end_is : end ≡ live_end shown.live (length (rows_done adds.merge.events)) (open_rows adds.merge.events)

-- Behind the draft stand the packets of events, and then some bytes, which a call of the folder may leave as it fails.
-- Some first ones of the events were said, and no end is left to say.
pub record BeganAloud (shown : Shown) (old new : Option Folder) (before after : Sinks) (said : Said) : Type 0 where
  pub events : List Event
  pub unsaid : List Event
  pub part : List ℕ
  pub are_events : All IsEvent (events ++ unsaid)
  pub fit : All Fits (events ++ unsaid)
  pub added : Goes old new (Grown (flat_map canonical (events ++ unsaid) ++ part))
  pub says : SaysAsTold shown events before after said
  pub no_end : said.end.items ≡ []

-- ---- what is heard

-- the lines of these rows were gathered behind those before
pub record Gathered (begun lines : Lines) (rows : List Row) : Type 0 where
  pub kind : lines.kind ≡ begun.kind
  pub text : (before : ℕ) → begun.column ≡ before % marks_a_line → lines.text.items ≡ begun.text.items ++ live_rows begun.kind before rows
  pub column : (before : ℕ) → begun.column ≡ before % marks_a_line → lines.column ≡ printed_behind before rows % marks_a_line

-- the lines that were gathered and not said
abbrev pub unsaid : Hearing → List ℕ
unsaid hearing = hearing.lines.text.items

-- the events were folded, and what was said with what is gathered are their lines
pub record Gathers (filter_tags : List (List ℕ)) (kind : Live) (said : List ℕ) (hearing : Hearing) (events : List Event) : Type 0 where
  pub folded : HasHeardEvents filter_tags hearing.run events
  pub kind_is : hearing.lines.kind ≡ kind
  pub column : hearing.lines.column ≡ length (rows_done events) % marks_a_line
  pub text : said ++ unsaid hearing ≡ live_so_far kind events

-- the events were heard, and nothing of them is left to say
pub record Hears (filter_tags : List (List ℕ)) (shown : Shown) (hearing : Hearing) (events : List Event) (before : Sinks) (now : Voices) : Type 0 where
  pub gathers : Gathers filter_tags shown.live (live_so_far shown.live events) hearing events
  pub none : unsaid hearing ≡ []
  pub says : SaysUpTo shown events before now

-- each piece is the packets of a group of events
abbrev pub ArePieces : List (List Event) → List (List ℕ) → Type 0
ArePieces groups pieces = Pairs ArePacketsOf groups pieces

-- of these groups the first ones were said
pub record SaysFirst (shown : Shown) (groups : List (List Event)) (before : Sinks) (now : Voices) : Type 0 where
  pub front : List (List Event)
  pub others : List (List Event)
  pub parts : groups ≡ front ++ others
  pub says : SaysUpTo shown (joined front) before now

-- Since the ear was as at first, when nothing was heard, the pieces were heard, whatever groups of events they are the packets
-- of, and whatever is shown.
abbrev pub HearsSince : (echo : Echo) → (begun : Hearing) → (first : Voices) → (hearing : Hearing) → (now : Voices) → List (List ℕ) → Type 0
HearsSince echo begun first hearing now pieces =
    (filter_tags : List (List ℕ)) (shown : Shown) (before : Sinks) (groups : List (List Event)) → shown.echo ≡ echo → Hears filter_tags shown begun [] before first → ArePieces groups pieces → Hears filter_tags shown hearing (joined groups) before now

-- of the groups some first ones were said
abbrev pub SaysSince : (echo : Echo) → (begun : Hearing) → (first : Voices) → (now : Voices) → List (List ℕ) → Type 0
SaysSince echo begun first now pieces =
    (filter_tags : List (List ℕ)) (shown : Shown) (before : Sinks) (groups : List (List Event)) → shown.echo ≡ echo → Hears filter_tags shown begun [] before first → ArePieces groups pieces → SaysFirst shown groups before now

-- What the words write of a stream.
use Rattle.std.specs.Prelude.{◌≡◌, ℕ, Bool, false, All, Option, Some, None, List, []}
use Rattle.std.specs.Option.{option_and_then}
use Rattle.event_sift.specs.Keeping.{keeps}
use Rattle.packet_codec.specs.Canonical.{canonical}
use Rattle.stream_end.specs.Inside.{ends_inside}
use Rattle.sub_export.specs.declared.job.Attachment.{Attachment}
use Rattle.sub_export.specs.declared.job.Job.{Job}
use Rattle.sub_export.specs.Output.{last_event}
use Rattle.sub_export.specs.Records.{csv_head_text}
use Rattle.partition_times.specs.Patterns.{IsPattern}
use Rattle.filter_cli.specs.declared.request.Asked.{Asked}
use Rattle.filter_cli.specs.declared.request.Request.{Request}
use Rattle.filter_cli.specs.declared.request.Asked.TheVariants.{Filter, Tags, Ls, Stats, FromTap, ToTap, ToCsv, ToJunit, Output, FromV1, ToV1, Tracing}
use Rattle.filter_cli.specs.Attached.{IsOutputSeen, IsAttachedOutput}
use Rattle.filter_cli.specs.Exporting.{csv_plan}
use Rattle.filter_cli.specs.Headed.{IsSeenBelow, IsWholeBelow}
use Rattle.filter_cli.specs.Plan.{Plan, IsSeen, IsFiltered}
use Rattle.filter_cli.specs.Pumping.{in_no_packet}
use Rattle.filter_cli.specs.Ls.{ls_plan}
use Rattle.filter_cli.specs.Stats.{stats_plan}
use Rattle.filter_cli.specs.Junit.{junit_plan}
use Rattle.filter_cli.specs.Tracing.{trace_plan}
use Rattle.filter_cli.specs.Filtering.{filter_plan}
use Rattle.filter_cli.specs.Tagging.{tags_plan_of}
use Rattle.filter_cli.specs.Tap.{IsTapSeen, IsTapFiltered}
use Rattle.filter_cli.specs.TapRows.{tap_plan}
use Rattle.filter_cli.specs.V1.{IsV1Seen, IsV1Filtered}
use Rattle.filter_cli.specs.V1Parts.{v1_plan}
use Rattle.filter_cli.specs.Patterns.{rules_of_selection, IsFirstBadText}
use Rattle.filter_cli.specs.Words.{request_of, asked_by_words}

-- what a filter writes, by what its input is cut into: notes, lines, notes below a text, or pieces of a job's file
pub data Writing : Type 0 where
  of_notes : Plan → Writing
  of_tap_lines : Writing
  of_v1_lines : Writing
  below_head : List ℕ → Plan → Writing
  of_job : Job → Writing

-- what each filter writes, by what its words ask for
abbrev pub writing_of : Asked → Writing
writing_of (Filter selection) = of_notes (filter_plan (rules_of_selection selection) selection.hidden)
writing_of (Tags retagging) = of_notes (tags_plan_of retagging.add retagging.remove)
writing_of (Ls listing) = of_notes (ls_plan listing)
writing_of (Stats counting) = of_notes (stats_plan counting)
writing_of FromTap = of_tap_lines
writing_of ToTap = of_notes tap_plan
writing_of (ToCsv selection) = below_head csv_head_text (csv_plan (keeps (rules_of_selection selection)))
writing_of ToJunit = of_notes junit_plan
writing_of (Output job) = of_job job
writing_of FromV1 = of_v1_lines
writing_of ToV1 = of_notes v1_plan
writing_of (Tracing trace) = of_notes (trace_plan trace)

-- the text that the first bytes of a stream decide, whatever follows
abbrev pub sees_by : Writing → List ℕ → List ℕ → Type 0
sees_by (of_notes plan) = IsSeen plan
sees_by of_tap_lines = IsTapSeen
sees_by of_v1_lines = IsV1Seen
sees_by (below_head head plan) = IsSeenBelow head (IsSeen plan)
sees_by (of_job job) = IsOutputSeen job

-- the text of a whole stream, and its status
abbrev pub ends_by : Writing → List ℕ → List ℕ → ℕ → Type 0
ends_by (of_notes plan) = IsFiltered plan
ends_by of_tap_lines = IsTapFiltered
ends_by of_v1_lines = IsV1Filtered
ends_by (below_head head plan) = IsWholeBelow head (IsFiltered plan)
ends_by (of_job job) = IsAttachedOutput job

-- whether a whole stream ends inside a packet: only notes are read from packets
abbrev pub inside_by : Writing → List ℕ → Bool
inside_by (of_notes plan) = ends_inside
inside_by of_tap_lines = in_no_packet
inside_by of_v1_lines = in_no_packet
inside_by (below_head head plan) = ends_inside
inside_by (of_job job) = in_no_packet

-- the patterns that a filter is given, in the order of the words
abbrev pub patterns_of : Asked → List (List ℕ)
patterns_of (Filter selection) = selection.patterns
patterns_of (Tags retagging) = []
patterns_of (Ls listing) = []
patterns_of (Stats counting) = []
patterns_of FromTap = []
patterns_of ToTap = []
patterns_of (ToCsv selection) = selection.patterns
patterns_of ToJunit = []
patterns_of (Output job) = []
patterns_of FromV1 = []
patterns_of ToV1 = []
patterns_of (Tracing trace) = []

-- ---- what is written where the input is left unread

-- the packet of the job's only event, where it attaches no file; none where it attaches one, for then that is read
abbrev pub unread_by : Job → Option Attachment → Option (List ℕ)
unread_by job None = Some (canonical (last_event job))
unread_by job (Some attachment) = None

-- The text of a filter that leaves its input unread: a job that attaches nothing. All others read it.
abbrev pub unread_text : Asked → Option (List ℕ)
unread_text (Filter selection) = None
unread_text (Tags retagging) = None
unread_text (Ls listing) = None
unread_text (Stats counting) = None
unread_text FromTap = None
unread_text ToTap = None
unread_text (ToCsv selection) = None
unread_text ToJunit = None
unread_text (Output job) = unread_by job job.attachment
unread_text FromV1 = None
unread_text ToV1 = None
unread_text (Tracing trace) = None

-- the same where a file may be named, which is read then
abbrev pub unread_with : (file : Option (List ℕ)) → Asked → Option (List ℕ)
unread_with None asked = unread_text asked
unread_with (Some name) asked = None

-- the same of what the words ask for
abbrev pub text_unread : List (List ℕ) → Option (List ℕ)
text_unread words = option_and_then (λ (r : Request). unread_with r.file r.asked) (request_of words)

-- ---- what words write

-- the words ask for this filter, and its patterns are good
pub record AsksFor (words : List (List ℕ)) (asked : Asked) : Type 0 where
  pub named : asked_by_words words ≡ Some asked
  pub good : All IsPattern (patterns_of asked)

-- the words ask for a filter, and this is the first of its patterns that is bad
pub record HasBadPattern (words : List (List ℕ)) : Type 0 where
  pub asked : Asked
  pub named : asked_by_words words ≡ Some asked
  pub text : List ℕ
  pub bad : IsFirstBadText (patterns_of asked) text

-- whether a whole stream ends inside a packet for what is asked
abbrev pub inside_asked : Option Asked → List ℕ → Bool
inside_asked None bytes = false
inside_asked (Some asked) bytes = inside_by (writing_of asked) bytes

-- the same for these words
abbrev pub is_inside_for : List (List ℕ) → List ℕ → Bool
is_inside_for words = inside_asked (asked_by_words words)

-- the text that the first bytes of a stream decide for these words, whatever follows
pub record IsSeenBy (words : List (List ℕ)) (bytes text : List ℕ) : Type 0 where
  pub asked : Asked
  pub asks : AsksFor words asked
  pub seen : sees_by (writing_of asked) bytes text

-- the text of a whole stream for these words, and its status
pub record IsFilteredBy (words : List (List ℕ)) (bytes text : List ℕ) (answer : ℕ) : Type 0 where
  pub asked : Asked
  pub asks : AsksFor words asked
  pub whole : ends_by (writing_of asked) bytes text answer

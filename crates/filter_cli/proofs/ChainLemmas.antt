-- How a chain goes on, and how it stops.
use Rattle.std.proofs.Common.{◌≡◌, ℕ, Bool, All, Option, None, Some, List, [], Result, Ok, Err, IsTrue, true≢false, refl, sym, ap, subst, ◌∙◌, arith}
use Rattle.std.specs.Prelude.{IsErrAnd, is_some}
use Rattle.std.proofs.lemmas.Result.{err_from_is_err_and}
use Rattle.partition_times.specs.Patterns.{IsPattern}
use Rattle.filter_cli.specs.Steps.{Step, Then, stops, goes_on, Still, Gives}
use Rattle.edge_io.specs.Seen.{Seen}
use Rattle.event_sift.specs.declared.tagger.Tagger.{Tagger}
use Rattle.event_sift.specs.declared.rules.Rules.{Rules}
use Rattle.packet_codec.specs.Canonical.{canonical}
use Rattle.sub_export.specs.declared.job.Attachment.{Attachment}
use Rattle.sub_export.specs.declared.job.Job.{Job}
use Rattle.sub_export.specs.Output.{last_event}
use Rattle.filter_cli.specs.Attached.{IsOutputSeen, IsAttachedOutput, WritesAlone}
use Rattle.sub_export.specs.Records.{csv_head_text}
use Rattle.event_sift.specs.Keeping.{keeps}
use Rattle.filter_cli.specs.Exporting.{csv_plan, IsCsvSeen, IsCsvFiltered}
use Rattle.filter_cli.specs.Headed.{IsSeenBelow, IsWholeBelow}
use Rattle.filter_cli.specs.Pipe.{Pipe, pipe}
use Rattle.filter_cli.specs.Plan.{Plan, IsSeen, IsFiltered}
use Rattle.stream_end.specs.Inside.{ends_inside}
use Rattle.filter_cli.specs.Pumping.{Pumps, in_no_packet}
use Rattle.filter_cli.specs.Tagging.{tags_plan, tags_plan_of}
use Rattle.filter_cli.specs.Streams.{of_job, writing_of, unread_by, unread_text, inside_by, sees_by, ends_by, patterns_of}
use Rattle.filter_cli.specs.FileReads.{FeedsFile}
use Rattle.filter_cli.specs.Outside.{Reach}
use Rattle.filter_cli.specs.declared.file_loop.FileFault.{FileFault}
use Rattle.filter_cli.specs.Program.{PumpsOrLeaves, FiltersOrLeaves, Checked, FeedsNamed, MakesAndFeeds, FiltersFrom, FilterPerforms, FilterTells}
use Rattle.filter_cli.specs.declared.request.Asked.{Asked}
use Rattle.filter_cli.specs.declared.request.Request.{Request}
use Rattle.filter_cli.specs.declared.request.Asked.TheVariants.{Output}
use Rattle.filter_cli.specs.declared.filter.StreamEnd.{StreamEnd}
use Rattle.filter_cli.specs.declared.pump_loop.PumpFault.{PumpFault}
use Rattle.filter_cli.specs.declared.refusal.UsageFault.{UsageFault}
use Rattle.filter_cli.specs.declared.refusal.Refusal.{Refusal}

module _ {W A B E R : Type 0} {name : E → R} {second : A → Step W B R} {before after : W} {result : Result B R} where
  -- an exit by `?`
  pub stopped : {first : Step W A E} (fault : E) → IsErrAnd result (λ refusal. refusal ≡ name fault) → first before after (Err fault) → Then name first second before after result
  stopped fault refused step =
      let p = err_from_is_err_and result refused in
      stops fault (p.1 ∙ ap Err p.2) step

  pub still_stops : {Says : Result A E → Type 0} (fault : E) → IsErrAnd result (λ refusal. refusal ≡ name fault) → Says (Err fault) → after ≡ before → Then name (Still Says) second before after result
  still_stops fault refused says same = stopped fault refused (record { says = says; same = same })

  pub still_done : {Says : Result A E → Type 0} (value : A) → Says (Ok value) → second value before after result → Then name (Still Says) second before after result
  still_done value says next = goes_on value before (record { says = says; same = refl }) next

pub gives : {W A R : Type 0} {value : A} {after : W} → Gives {R = R} value after after (Ok value)
gives = record { answer = refl; same = refl }

-- good patterns, and then the rest
pub checked : (asked : Asked) (before after : Pipe) (result : Result StreamEnd Refusal) → All IsPattern (patterns_of asked) → FiltersOrLeaves asked before after result → Checked asked before after result
checked asked before after result good next = still_done tt good next

pub none_given : All IsPattern []
none_given k d lt = absurd (omega (arith, lt))

-- ---- the same of another term of the same value

pub performs_as : (fault given : UsageFault) (request other : Option Request) (before after : Reach) (result : Result StreamEnd Refusal) → given ≡ fault → other ≡ request → FilterPerforms given other before after result → FilterPerforms fault request before after result
performs_as fault given request other before after result fault_is is done =
    subst (λ (r : Option Request). FilterPerforms fault r before after result) is (subst (λ (f : UsageFault). FilterPerforms f other before after result) fault_is done)

pub takes_as : (file given : Option (List ℕ)) (asked : Asked) (before after : Reach) (result : Result StreamEnd Refusal) → given ≡ file → FiltersFrom given asked before after result → FiltersFrom file asked before after result
takes_as file given asked before after result is done = subst (λ (f : Option (List ℕ)). FiltersFrom f asked before after result) is done

pub checked_as : (asked given : Asked) (before after : Pipe) (result : Result StreamEnd Refusal) → given ≡ asked → Checked given before after result → Checked asked before after result
checked_as asked given before after result is done = subst (λ (a : Asked). Checked a before after result) is done

-- ---- with a file by its name

pub named_as : (asked given : Asked) (name : List ℕ) (before after : Reach) (result : Result StreamEnd Refusal) → given ≡ asked → FiltersFrom (Some name) given before after result → FiltersFrom (Some name) asked before after result
named_as asked given name before after result is done = subst (λ (a : Asked). FiltersFrom (Some name) a before after result) is done

-- good patterns, and then the filter and its file
pub checked_named : (asked : Asked) (name : List ℕ) (before after : Reach) (result : Result StreamEnd Refusal) → All IsPattern (patterns_of asked) → MakesAndFeeds name (inside_by (writing_of asked)) (sees_by (writing_of asked)) (ends_by (writing_of asked)) before after result → FiltersFrom (Some name) asked before after result
checked_named asked name before after result good next = still_done tt good next

-- the filter was made
pub made : {inside : List ℕ → Bool} (name : List ℕ) (sees : List ℕ → List ℕ → Type 0) (ends : List ℕ → List ℕ → ℕ → Type 0) (before after : Reach) (result : Result StreamEnd Refusal) → FeedsNamed name inside sees ends before after result → MakesAndFeeds name inside sees ends before after result
made name sees ends before after result next = still_done tt tt next

-- by a plan of the same value
pub plan_named : (plan given : Plan) (name : List ℕ) (before after : Reach) (result : Result StreamEnd Refusal) → given ≡ plan → MakesAndFeeds name ends_inside (IsSeen given) (IsFiltered given) before after result → MakesAndFeeds name ends_inside (IsSeen plan) (IsFiltered plan) before after result
plan_named plan given name before after result is feeds = subst (λ (p : Plan). MakesAndFeeds name ends_inside (IsSeen p) (IsFiltered p) before after result) is feeds

-- the records by the same rules
pub records_named_as : (rules given : Rules) (name : List ℕ) (before after : Reach) (result : Result StreamEnd Refusal) → given ≡ rules → MakesAndFeeds name ends_inside (IsCsvSeen given) (IsCsvFiltered given) before after result → MakesAndFeeds name ends_inside (IsCsvSeen rules) (IsCsvFiltered rules) before after result
records_named_as rules given name before after result is feeds = subst (λ (r : Rules). MakesAndFeeds name ends_inside (IsCsvSeen r) (IsCsvFiltered r) before after result) is feeds

pub tells_as : (name given : List ℕ) (outcome : Result StreamEnd Refusal) (before after : Seen (List ℕ)) (answer : ℕ) → given ≡ name → FilterTells given outcome before after answer → FilterTells name outcome before after answer
tells_as name given outcome before after answer is tells = subst (λ (n : List ℕ). FilterTells n outcome before after answer) is tells

-- what a plan does
abbrev pub PumpsBy : Plan → Pipe → Pipe → Result StreamEnd PumpFault → Type 0
PumpsBy plan = Pumps ends_inside (IsSeen plan) (IsFiltered plan)

pub plan_as : (plan given : Plan) (before after : Pipe) (result : Result StreamEnd PumpFault) → given ≡ plan → PumpsBy given before after result → PumpsBy plan before after result
plan_as plan given before after result is pumps = subst (λ (p : Plan). PumpsBy p before after result) is pumps

-- the records by the same rules
pub records_as : (rules given : Rules) (before after : Pipe) (result : Result StreamEnd PumpFault) → given ≡ rules → Pumps ends_inside (IsCsvSeen given) (IsCsvFiltered given) before after result → Pumps ends_inside (IsCsvSeen rules) (IsCsvFiltered rules) before after result
records_as rules given before after result is pumps = subst (λ (r : Rules). Pumps ends_inside (IsCsvSeen r) (IsCsvFiltered r) before after result) is pumps

-- ---- the events that words ask for

attaches_with : (job : Job) (attachment : Option Attachment) (before after : Pipe) (result : Result StreamEnd PumpFault) → IsTrue (is_some attachment) → Pumps in_no_packet (IsOutputSeen job) (IsAttachedOutput job) before after result → PumpsOrLeaves (unread_by job attachment) (of_job job) before after result
attaches_with job None before after result some pumps = absurd (true≢false (sym some))
attaches_with job (Some attachment) before after result some pumps = pumps

-- a job that attaches a file reads the input
pub attaches_as : (job : Job) (before after : Pipe) (result : Result StreamEnd PumpFault) → IsTrue (is_some job.attachment) → Pumps in_no_packet (IsOutputSeen job) (IsAttachedOutput job) before after result → PumpsOrLeaves (unread_text (Output job)) (writing_of (Output job)) before after result
attaches_as job before after result some pumps = attaches_with job job.attachment before after result some pumps

-- one that attaches nothing leaves it unread
pub leaves_as : (job : Job) (input before after : Seen (List ℕ)) (result : Result StreamEnd PumpFault) → job.attachment ≡ None → WritesAlone (canonical (last_event job)) before after result → PumpsOrLeaves (unread_text (Output job)) (writing_of (Output job)) (pipe input before) (pipe input after) result
leaves_as job input before after result none written =
    subst (λ (o : Option Attachment). PumpsOrLeaves (unread_by job o) (of_job job) (pipe input before) (pipe input after) result) (sym none) (record { unread = refl; written = written })

pub tags_is : (tagger : Tagger) (add remove : List (List ℕ)) → tagger.add ≡ add → tagger.remove ≡ remove → tags_plan tagger ≡ tags_plan_of add remove
tags_is tagger add remove add_is remove_is = ap (λ (l : List (List ℕ)). tags_plan_of l tagger.remove) add_is ∙ ap (tags_plan_of add) remove_is

-- a file by the same name
pub file_as : {inside : List ℕ → Bool} (name given : List ℕ) (sees : List ℕ → List ℕ → Type 0) (ends : List ℕ → List ℕ → ℕ → Type 0) (before after : Reach) (result : Result StreamEnd FileFault) → given ≡ name → FeedsFile given inside sees ends before after result → FeedsFile name inside sees ends before after result
file_as {inside = inside} name given sees ends before after result is feeds = subst (λ (n : List ℕ). FeedsFile n inside sees ends before after result) is feeds

-- the same head, and the same rules
pub csv_named : (head : List ℕ) (rules other : Rules) (name : List ℕ) (before after : Reach) (result : Result StreamEnd Refusal) → head ≡ csv_head_text → other ≡ rules → MakesAndFeeds name ends_inside (IsSeenBelow head (IsSeen (csv_plan (keeps other)))) (IsWholeBelow head (IsFiltered (csv_plan (keeps other)))) before after result → MakesAndFeeds name ends_inside (IsCsvSeen rules) (IsCsvFiltered rules) before after result
csv_named head rules other name before after result is same feeds =
    records_named_as rules other name before after result same
    (subst (λ (h : List ℕ). MakesAndFeeds name ends_inside (IsSeenBelow h (IsSeen (csv_plan (keeps other)))) (IsWholeBelow h (IsFiltered (csv_plan (keeps other)))) before after result) is feeds)

-- a job by the same value
pub job_as : (job given : Job) (name : List ℕ) (before after : Reach) (result : Result StreamEnd Refusal) → given ≡ job → MakesAndFeeds name in_no_packet (IsOutputSeen given) (IsAttachedOutput given) before after result → MakesAndFeeds name in_no_packet (IsOutputSeen job) (IsAttachedOutput job) before after result
job_as job given name before after result is feeds = subst (λ (j : Job). MakesAndFeeds name in_no_packet (IsOutputSeen j) (IsAttachedOutput j) before after result) is feeds

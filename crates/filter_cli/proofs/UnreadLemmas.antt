-- What is written where the input is left unread.
use Rattle.std.proofs.Common.{◌≡◌, ℕ, Option, None, Some, Result, Ok, Err, List, [], ◌∷◌, ◌++◌, refl, sym, ap, subst, ◌∙◌, append-nil, arith}
use Rattle.std.proofs.KnownBytes.{Appends-nil}
use Rattle.std.specs.Option.{option_map, option_and_then, option_to_list}
use Rattle.edge_io.specs.Bytes.{AppendsPrefix}
use Rattle.edge_io.specs.Seen.{Seen}
use Rattle.packet_codec.specs.declared.event.Event.{Event}
use Rattle.packet_codec.specs.Canonical.{canonical, packets_of}
use Rattle.sub_export.specs.declared.job.Attachment.{Attachment}
use Rattle.sub_export.specs.declared.job.Job.{Job}
use Rattle.sub_export.specs.Output.{attachment_event, pieces_of, output_events, last_event}
use Rattle.filter_cli.specs.Attached.{WritesAlone, events_of_pieces}
use Rattle.filter_cli.specs.Pipe.{Pipe}
use Rattle.filter_cli.specs.Program.{LeavesUnread}
use Rattle.filter_cli.specs.Promises.{GivesAll, GivesFirst}
use Rattle.filter_cli.specs.Streams.{writing_of, ends_by, unread_by, unread_text, unread_with, text_unread}
use Rattle.filter_cli.specs.Words.{asked_by_tool, request_of, asked_by_words, input_file_in}
use Rattle.filter_cli.specs.Tools.{tool_named, tool_of}
use Rattle.filter_cli.specs.declared.tool.Tool.{Tool}
use Rattle.filter_cli.specs.declared.request.Asked.{Asked}
use Rattle.filter_cli.specs.declared.request.Request.{Request}
use Rattle.filter_cli.specs.declared.request.Asked.TheVariants.{Filter, Tags, Ls, Stats, FromTap, ToTap, ToCsv, ToJunit, Output, FromV1, ToV1, Tracing}
use Rattle.filter_cli.specs.declared.filter.StreamEnd.{StreamEnd}
use Rattle.filter_cli.specs.declared.pump_loop.PumpFault.{PumpFault}
use Rattle.filter_cli.specs.declared.pump_loop.PumpFault.TheVariants as pump_fault
use Rattle.filter_cli.proofs.Prefixes.{prefix_all}

-- ---- a job that attaches nothing has the same events whatever the bytes

none_attached : (job : Job) (pieces : List (List ℕ)) → job.attachment ≡ None → events_of_pieces job pieces ≡ []
none_attached job [] none = refl
none_attached job (piece ∷ pieces) none =
    ap (λ (o : Option Attachment). option_to_list (option_map (λ attachment. attachment_event job.stamp job.id attachment piece) o) ++ events_of_pieces job pieces) none
    ∙ none_attached job pieces none

output_alone : (job : Job) (bytes : List ℕ) → job.attachment ≡ None → packets_of (output_events job bytes) ≡ canonical (last_event job)
output_alone job bytes none =
    ap (λ (es : List Event). packets_of (es ++ last_event job ∷ [])) (none_attached job (pieces_of bytes) none)
    ∙ append-nil (canonical (last_event job))

unread_job : (job : Job) (attachment : Option Attachment) (text : List ℕ) → job.attachment ≡ attachment → unread_by job attachment ≡ Some text → (job.attachment ≡ None) × (canonical (last_event job) ≡ text)
unread_job job None text is some = let same : canonical (last_event job) ≡ text = cc in (is, same)
unread_job job (Some attachment) text is some = absurd (cc)

pub unread_whole : (asked : Asked) (text bytes all : List ℕ) (status : ℕ) → unread_text asked ≡ Some text → ends_by (writing_of asked) bytes all status → all ≡ text
unread_whole (Filter selection) text bytes all status is w = absurd (cc)
unread_whole (Tags retagging) text bytes all status is w = absurd (cc)
unread_whole (Ls listing) text bytes all status is w = absurd (cc)
unread_whole (Stats counting) text bytes all status is w = absurd (cc)
unread_whole FromTap text bytes all status is w = absurd (cc)
unread_whole ToTap text bytes all status is w = absurd (cc)
unread_whole ToJunit text bytes all status is w = absurd (cc)
unread_whole FromV1 text bytes all status is w = absurd (cc)
unread_whole ToV1 text bytes all status is w = absurd (cc)
unread_whole (Tracing trace) text bytes all status is w = absurd (cc)
unread_whole (ToCsv selection) text bytes all status is w = absurd (cc)
unread_whole (Output job) text bytes all status is w =
    let both = unread_job job job.attachment text refl is in
    w.0 ∙ output_alone job bytes both.0 ∙ both.1

-- ---- of what words ask for

-- with a file nothing is left unread
with_none : (file : Option (List ℕ)) (asked : Asked) (shown : List ℕ) → unread_with file asked ≡ Some shown → unread_text asked ≡ Some shown
with_none None asked shown some = some
with_none (Some name) asked shown some = absurd (cc)

own_of : (request : Option Request) (asked : Asked) (shown : List ℕ) → option_map (λ (r : Request). r.asked) request ≡ Some asked → option_and_then (λ (r : Request). unread_with r.file r.asked) request ≡ Some shown → unread_text asked ≡ Some shown
own_of None asked shown named some = absurd (cc)
own_of (Some r) asked shown named some =
    let same : r.asked ≡ asked = cc in
    subst (λ (a : Asked). unread_text a ≡ Some shown) same (with_none r.file r.asked shown some)

-- the text of words is that of their filter
pub unread_own : (words : List (List ℕ)) (asked : Asked) (shown : List ℕ) → asked_by_words words ≡ Some asked → text_unread words ≡ Some shown → unread_text asked ≡ Some shown
unread_own words asked shown named some = own_of (request_of words) asked shown named some

-- words of a request ask for its filter
pub asked_is : (words : List (List ℕ)) (r : Request) → request_of words ≡ Some r → asked_by_words words ≡ Some r.asked
asked_is words r named = ap (option_map (λ (q : Request). q.asked)) named

pub file_is : (words : List (List ℕ)) (r : Request) → request_of words ≡ Some r → input_file_in words ≡ r.file
file_is words r named = ap (option_and_then (λ (q : Request). q.file)) named

pub unread_is : (words : List (List ℕ)) (r : Request) → request_of words ≡ Some r → text_unread words ≡ unread_with r.file r.asked
unread_is words r named = ap (option_and_then (λ (q : Request). unread_with q.file q.asked)) named

-- words that ask for nothing
pub file_none : (words : List (List ℕ)) → request_of words ≡ None → input_file_in words ≡ None
file_none words none = ap (option_and_then (λ (q : Request). q.file)) none

pub asked_none : (words : List (List ℕ)) → request_of words ≡ None → asked_by_words words ≡ None
asked_none words none = ap (option_map (λ (q : Request). q.asked)) none

file_asks : (request : Option Request) (name : List ℕ) → option_and_then (λ (q : Request). q.file) request ≡ Some name → option_map (λ (q : Request). q.asked) request ≡ None → ⊥
file_asks None name is none = cc
file_asks (Some r) name is none = cc

-- words that name a file ask for a filter
pub named_asks : (words : List (List ℕ)) (name : List ℕ) → input_file_in words ≡ Some name → asked_by_words words ≡ None → ⊥
named_asks words name is none = file_asks (request_of words) name is none

asks_named : (first : List ℕ) (words : List (List ℕ)) (asked : Asked) (t : Option Tool) → option_map (λ (q : Request). q.asked) (option_and_then (λ u. asked_by_tool u words) t) ≡ Some asked → t ≡ None → ⊥
asks_named first words asked None named none = cc
asks_named first words asked (Some t) named none = cc

-- words that ask for a filter begin with its name
pub asks_tool : (words : List (List ℕ)) (asked : Asked) → asked_by_words words ≡ Some asked → tool_of words ≡ None → ⊥
asks_tool [] asked named none = cc
asks_tool (first ∷ words) asked named none = asks_named first words asked (tool_named first) named none

-- ---- what stands at each exit

written_first : (text : List ℕ) (before after : Seen (List ℕ)) (result : Result StreamEnd PumpFault) → WritesAlone text before after result → AppendsPrefix before.told after.told text
written_first text before after (Ok end) w = prefix_all before.told after.told text w.1
written_first text before after (Err pump_fault.Input) w = absurd w
written_first text before after (Err pump_fault.TooLong) w = absurd w
written_first text before after (Err pump_fault.Output) w = w.0
written_first text before after (Err pump_fault.NoMemory) w = subst (λ (s : Seen (List ℕ)). AppendsPrefix before.told s.told text) (sym w) (0, omega arith, Appends-nil before.told)

pub gives_first : (text : List ℕ) (a b : Pipe) (result : Result StreamEnd PumpFault) → LeavesUnread text a b result → GivesFirst text a b
gives_first text a b result p = record { unread = p.unread; wrote = written_first text a.out b.out result p.written }

-- no byte was read, and nothing was written
pub gives_none : (text : List ℕ) (a b : Pipe) → b ≡ a → GivesFirst text a b
gives_none text a b same = subst (GivesFirst text a) (sym same) (record { unread = refl; wrote = (0, omega arith, Appends-nil a.out.told) })

pub gives_all : (text : List ℕ) (a b : Pipe) (end : StreamEnd) → LeavesUnread text a b (Ok end) → GivesAll text a b end.status
gives_all text a b end p = record {
  unread = p.unread;
  wrote = p.written.1;
  passed = ap (λ (e : StreamEnd). e.status) p.written.0;
  faults = record { input = ap (λ (s : Seen (List ℕ)). s.faults) p.unread; out = p.written.2 };
}

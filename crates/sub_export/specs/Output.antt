-- Events from words (docs/FORMATS.md, "Events from words").
use Rattle.std.specs.Prelude.{ℕ, ◌+◌, ◌-◌, Bool, true, false, ◌&&◌, ◌||◌, not, ◌==◌, nat_le, min, Option, Some, None, is_none, is_some, List, [], ◌∷◌, ◌++◌, length, map, replicate, codes, if◌then◌else◌}
use Rattle.std.specs.List.{list_any, flat_map, fold}
use Rattle.std.specs.Option.{option_map, option_and_then, option_to_list, unwrap_or}
use Rattle.std.specs.Str.{bytes_eq}
use Rattle.command_words.specs.Items.{Item, flag, valued, name, items_of, values_in}
use Rattle.command_words.specs.declared.table.Kind.{Kind}
use Rattle.command_words.specs.declared.table.Kind.TheVariants.{Valued}
use Rattle.std.proofs.Common.{arith}
use Rattle.instants.specs.Instants.{Moment, instant_of}
pub use Rattle.packet_codec.specs.Pieces.{pieces_of}
use Rattle.packet_codec.specs.declared.event.Event.{Event}
use Rattle.packet_codec.specs.declared.stamp.Stamp.{Stamp}
use Rattle.packet_codec.specs.declared.status.Status.{Status}
use Rattle.packet_codec.specs.declared.status.Status.TheVariants as status
use Rattle.packet_codec.specs.Canonical.{canonical_size, largest_packet}
use Rattle.packet_codec.specs.Retagging.{if_any}
use Rattle.sub_export.specs.declared.job.Job.{Job}
use Rattle.sub_export.specs.declared.job.Attachment.{Attachment}

-- ---- the events of a job

-- the most bytes of a piece
abbrev pub piece_size : ℕ
piece_size = 65536

-- a piece of the attached file
abbrev pub attachment_event : Option Stamp → Option (List ℕ) → Attachment → List ℕ → Event
attachment_event stamp id attachment bytes = record {
  stamp = stamp;
  id = id;
  tags = None;
  runnable = true;
  status = status.Unset;
  mime = attachment.mime;
  file = Some (record { name = attachment.name; bytes = bytes });
  eof = false;
  route = None;
}

-- the same, where the job attaches a file
abbrev pub attached_piece_event : Job → List ℕ → Option Event
attached_piece_event job bytes = option_map (λ attachment. attachment_event job.stamp job.id attachment bytes) job.attachment

-- the path of the file that the job attaches, where it is not standard input
abbrev pub attached_path : Job → Option (List ℕ)
attached_path job = option_and_then (λ attachment. attachment.path) job.attachment

-- the last event
abbrev pub last_event : Job → Event
last_event job = record {
  stamp = job.stamp;
  id = job.id;
  tags = if_any job.tags;
  runnable = true;
  status = job.status;
  mime = None;
  file = None;
  eof = is_some job.attachment;
  route = None;
}

-- as many bytes as a piece may have
unfoldable pub longest_bytes : List ℕ
longest_bytes = replicate piece_size 0

-- all events of a job where these bytes are read
abbrev pub output_events : Job → List ℕ → List Event
output_events job bytes = flat_map (λ piece. option_to_list (attached_piece_event job piece)) (pieces_of bytes) ++ last_event job ∷ []

-- ---- the job that words ask for

-- the status that the option of this name gives its test
abbrev pub status_named : List ℕ → Option Status
status_named option =
    if bytes_eq option (codes "--exists") then Some status.Exists
    else (if bytes_eq option (codes "--inprogress") then Some status.InProgress
    else (if bytes_eq option (codes "--success") then Some status.Success
    else (if bytes_eq option (codes "--uxsuccess") then Some status.UxSuccess
    else (if bytes_eq option (codes "--skip") then Some status.Skip
    else (if bytes_eq option (codes "--fail") then Some status.Fail
    else (if bytes_eq option (codes "--xfail") then Some status.XFail
    else None))))))

-- an option that gives no status
abbrev pub is_other_option : List ℕ → Bool
is_other_option option =
    bytes_eq option (codes "--attach-file")
    || (bytes_eq option (codes "--file-name")
    || (bytes_eq option (codes "--mimetype")
    || (bytes_eq option (codes "--timestamp")
    || bytes_eq option (codes "--tag"))))

-- each option has a value
abbrev pub output_kind : List ℕ → Option Kind
output_kind option = if is_some (status_named option) || is_other_option option then Some Valued else None

-- what an option says that gives a status
pub record StatusOption : Type 0 where
  pub status : Status
  pub id : List ℕ

-- the status and the id that an option tells, where it is the name of a status
abbrev pub verdict_in : Item → Option StatusOption
verdict_in (flag given) = None
verdict_in (valued option value) = option_map (λ s. record { status = s; id = value }) (status_named option)
verdict_in (name word) = None

-- the verdicts that the items tell, in their order
abbrev pub verdicts_in : List Item → List StatusOption
verdicts_in items = flat_map (λ item. option_to_list (verdict_in item)) items

-- the last value of the option stands
abbrev pub last_value : Option (List ℕ) → List (List ℕ) → Option (List ℕ)
last_value before values = fold (λ before now. Some now) before values

-- the last value of this option, where it has one
abbrev pub last_value_in : List ℕ → List Item → Option (List ℕ)
last_value_in option items = last_value None (values_in option items)

-- The stamp of a moment. A moment that is read has fewer than 1,000,000,000 nanoseconds, so none is lost.
abbrev pub moment_stamp : Moment → Stamp
moment_stamp moment = record { seconds = moment.seconds; nanos = min moment.nanos 1073741823; nanos_fit = omega arith }

-- the stamp of the time that a word tells
unfoldable pub stamp_told : List ℕ → Option Stamp
stamp_told time = option_map moment_stamp (instant_of time)

-- a time that is none
abbrev pub is_no_time : (option value : List ℕ) → Bool
is_no_time option value = bytes_eq option (codes "--timestamp") && is_none (stamp_told value)

-- a word that is no option, or a time that is none
abbrev pub is_refused_item : Item → Bool
is_refused_item (flag given) = false
is_refused_item (valued option value) = is_no_time option value
is_refused_item (name word) = true

-- what the items say in all: at most one status, the tags, and the values of the other options
pub record OptionsTold : Type 0 where
  pub verdict : Option StatusOption
  pub tags : List (List ℕ)
  pub attached : Option (List ℕ)
  pub name : Option (List ℕ)
  pub mime : Option (List ℕ)
  pub time : Option (List ℕ)

-- A status or a file is told. Tags stand beside a status, a name and a type beside a file.
abbrev pub agrees : OptionsTold → Bool
agrees t =
    (is_some t.verdict || is_some t.attached)
    && ((is_some t.verdict || length t.tags == 0)
    && (is_some t.attached || not (is_some t.name || is_some t.mime)))

-- the path of the file that is read; a dash stands for standard input, which has none
abbrev pub path_named : List ℕ → Option (List ℕ)
path_named file = if bytes_eq file (codes "-") then None else Some file

-- the name that a file has of its own
abbrev pub own_name : List ℕ → List ℕ
own_name file = if bytes_eq file (codes "-") then codes "stdin" else file

-- the job that is told so
abbrev pub job_with : OptionsTold → Job
job_with t = record {
  stamp = option_and_then stamp_told t.time;
  id = option_map (λ v. v.id) t.verdict;
  status = unwrap_or (option_map (λ v. v.status) t.verdict) status.Unset;
  tags = t.tags;
  attachment = option_map (λ file. record { path = path_named file; name = unwrap_or t.name (own_name file); mime = t.mime }) t.attached;
}

-- the event is not too long for a packet
abbrev pub has_packet : Event → Bool
has_packet e = nat_le (canonical_size e) largest_packet

-- of a file that is attached each piece has a packet, since the longest one has
abbrev pub longest_piece_fits : Option Stamp → Option (List ℕ) → Option Attachment → Bool
longest_piece_fits stamp id None = true
longest_piece_fits stamp id (Some attachment) = has_packet (attachment_event stamp id attachment longest_bytes)

-- each event of the job has a packet, also that of the longest piece
abbrev pub job_fits : Job → Bool
job_fits job = has_packet (last_event job) && longest_piece_fits job.stamp job.id job.attachment

-- what the items tell beside this verdict
abbrev pub told_by : List Item → Option StatusOption → OptionsTold
told_by items verdict = record {
  verdict = verdict;
  tags = values_in (codes "--tag") items;
  attached = last_value_in (codes "--attach-file") items;
  name = last_value_in (codes "--file-name") items;
  mime = last_value_in (codes "--mimetype") items;
  time = last_value_in (codes "--timestamp") items;
}

-- the job that is told, where its parts agree and its events have packets
abbrev pub job_if : OptionsTold → Option Job
job_if t = if agrees t && job_fits (job_with t) then Some (job_with t) else None

-- at most one status is told
abbrev pub job_by : List Item → List StatusOption → Option Job
job_by items [] = job_if (told_by items None)
job_by items (v ∷ []) = job_if (told_by items (Some v))
job_by items (v ∷ w ∷ more) = None

-- the job that the words ask for, where none of them is refused
abbrev pub job_behind : List Item → Option Job
job_behind items = if list_any is_refused_item items then None else job_by items (verdicts_in items)

-- the job that the words behind the filter's name ask for, where they are a command
abbrev pub job_of : List (List ℕ) → Option Job
job_of words = option_and_then job_behind (items_of output_kind words)

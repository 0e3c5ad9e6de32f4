-- The parts of a test's events (docs/FORMATS.md, "The fold": a part ends with each event that completes its test).
use Rattle.std.specs.Prelude.{ℕ, ◌+◌, ◌-◌, ◌*◌, Bool, false, not, Option, Some, None, List, [], ◌∷◌, take, codes, nat_eq, nat_le, is_some, if◌then◌else◌}
use Rattle.std.specs.List.{filter, list_any, flat_map, starts_with, take_while}
use Rattle.std.specs.Option.{option_map, unwrap_or}
use Rattle.std.specs.Ordering.{eq_by_cmp}
use Rattle.std.specs.Str.{bytes_eq}
use Rattle.packet_codec.specs.declared.stamp.Stamp.{Stamp}
use Rattle.packet_codec.specs.declared.status.Status.{Status}
use Rattle.packet_codec.specs.declared.status.Status.TheVariants as status
use Rattle.packet_codec.specs.declared.event.FilePart.{FilePart}
use Rattle.packet_codec.specs.declared.event.Event.{Event}
use Rattle.outcome_fold.specs.declared.row.Ended.{Ended}
use Rattle.outcome_fold.specs.declared.row.Ended.TheVariants as ended
use Rattle.outcome_fold.specs.declared.test_key.TestKey.{TestKey}
use Rattle.outcome_fold.specs.Order.{test_cmp, in_byte_order}

-- the test that an event speaks of, which an event without an id does not
abbrev pub test_of : Event → Option TestKey
test_of e = option_map (λ id. record { route = e.route; id = id }) e.id

-- what an event speaks of, if it speaks of a test, is this test: the same id under the same route
abbrev pub speaks_of : TestKey → Option TestKey → Bool
speaks_of test None = false
speaks_of test (Some other) = eq_by_cmp test_cmp test other

-- the events that speak of the test, of its id under its route
abbrev pub events_of_test : TestKey → List Event → List Event
events_of_test test = filter (λ e. speaks_of test (test_of e))

-- How an event of this status ends its test. Unset and inprogress end none.
abbrev pub ended_by : Status → Option Ended
ended_by status.Unset = None
ended_by status.Exists = Some ended.Exists
ended_by status.InProgress = None
ended_by status.Success = Some ended.Success
ended_by status.UxSuccess = Some ended.UxSuccess
ended_by status.Skip = Some ended.Skip
ended_by status.Fail = Some ended.Fail
ended_by status.XFail = Some ended.XFail

-- the event has a status that ends a test; whether it has an id is not asked
abbrev pub has_end_status : Event → Bool
has_end_status e = is_some (ended_by e.status)

-- the last part of a test's events: those behind the last one that completes
abbrev pub last_part : List Event → List Event
last_part [] = []
last_part (e ∷ es) = if list_any has_end_status (e ∷ es) then last_part es else e ∷ es

-- in nanoseconds since 1970 in UTC
abbrev pub instant : Stamp → ℕ
instant stamp = stamp.seconds * 1000000000 + stamp.nanos

-- the instant of the first event
abbrev pub start_of : List Event → Option ℕ
start_of [] = None
start_of (e ∷ es) = option_map instant e.stamp

-- what lies between two instants, where both are there and the second is not the earlier one
abbrev pub elapsed : Option ℕ → Option ℕ → Option ℕ
elapsed None end = None
elapsed (Some start) None = None
elapsed (Some start) (Some end) = if nat_le start end then Some (end - start) else None

-- the tags of the last event that has tags
abbrev pub last_tags : List Event → List (List ℕ)
last_tags [] = []
last_tags (e ∷ es) = if list_any (λ e. is_some e.tags) es then last_tags es else unwrap_or e.tags []

-- the tags that a part tells, in the order of their bytes, each once
abbrev pub tags_of : List Event → List (List ℕ)
tags_of part = in_byte_order (last_tags part)

-- files of this MIME type are text
abbrev pub is_text_type : List ℕ → Bool
is_text_type mime = starts_with nat_eq mime (codes "text/")

-- the bytes of a file, where there is one and a MIME type that begins with text/
abbrev pub text_by : Option (List ℕ) → Option (List ℕ) → List ℕ
text_by None bytes = []
text_by (Some mime) None = []
text_by (Some mime) (Some bytes) = if is_text_type mime then bytes else []

-- the same of the event's file
abbrev pub text_in : Option (List ℕ) → Option FilePart → List ℕ
text_in mime file = text_by mime (option_map (λ file. file.bytes) file)

-- how many bytes are kept of a traceback, and of all other files of text together
abbrev pub text_limit : ℕ
text_limit = 65536

-- the bytes of a file, where there is one and its name is `reason`
abbrev pub reason_by : Option (List ℕ) → Option (List ℕ) → List ℕ
reason_by None bytes = []
reason_by (Some name) None = []
reason_by (Some name) (Some bytes) = if bytes_eq name (codes "reason") then bytes else []

-- the same of the event's file, whatever its MIME type
abbrev pub reason_in : Option FilePart → List ℕ
reason_in file = reason_by (option_map (λ file. file.name) file) (option_map (λ file. file.bytes) file)

-- the bytes that are kept of why a test was skipped
abbrev pub reason_limit : ℕ
reason_limit = 1024

-- the first bytes of the part's files named `reason`, joined
abbrev pub reason_of : List Event → List ℕ
reason_of part = take reason_limit (flat_map (λ e. reason_in e.file) part)

-- what stands before the first newline, or all of it
abbrev pub first_text_line : List ℕ → List ℕ
first_text_line bytes = take_while (λ byte. not (nat_eq byte 10)) bytes

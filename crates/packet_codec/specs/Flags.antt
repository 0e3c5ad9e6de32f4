-- The two flag bytes of a packet (the Subunit README, "Packet format").
use Rattle.std.specs.Prelude.{ℕ, ◌+◌, Bool, is_some, if◌then◌else◌}
use Rattle.packet_codec.specs.declared.status.Status.{Status}
use Rattle.packet_codec.specs.declared.status.Status.TheVariants.{Unset, Exists, InProgress, Success, UxSuccess, Skip, Fail, XFail}
use Rattle.packet_codec.specs.declared.event.Event.{Event}

-- the number that stands for a status in the flags
abbrev pub status_number : Status → ℕ
status_number Unset = 0
status_number Exists = 1
status_number InProgress = 2
status_number Success = 3
status_number UxSuccess = 4
status_number Skip = 5
status_number Fail = 6
status_number XFail = 7

-- the flag's weight, where it is set
abbrev pub flag : Bool → ℕ → ℕ
flag set weight = if set then weight else 0

-- version 2 in the top four bits, then: an id, a route, a time, runnable
abbrev pub first_flags : Event → ℕ
first_flags e = 0x20 + flag (is_some e.id) 8 + flag (is_some e.route) 4 + flag (is_some e.stamp) 2 + flag e.runnable 1

-- tags, a file, a MIME type, the end of a file, a bit that is zero, and three bits of status
abbrev pub second_flags : Event → ℕ
second_flags e = flag (is_some e.tags) 128 + flag (is_some e.file) 64 + flag (is_some e.mime) 32 + flag e.eof 16 + status_number e.status

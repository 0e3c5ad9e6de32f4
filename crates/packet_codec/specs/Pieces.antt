-- Pieces of files.
use Rattle.std.specs.Prelude.{ℕ, ◌+◌, ◌-◌, ◌*◌, ◌/◌, Some, None, List, true, false, length, take, drop, map}
use Rattle.std.specs.List.{range_with_len}
use Rattle.packet_codec.specs.declared.status.Status.TheVariants.{Unset}
use Rattle.packet_codec.specs.declared.event.Event.{Event}

-- an event with a piece of the file of this name, and nothing else
abbrev pub event_of_piece : (name bytes : List ℕ) → Event
event_of_piece name bytes = record {
  stamp = None;
  id = None;
  tags = None;
  runnable = true;
  status = Unset;
  mime = None;
  file = Some (record { name = name; bytes = bytes });
  eof = false;
  route = None;
}

-- the most bytes of one piece
abbrev pub longest_piece : ℕ
longest_piece = 65536

-- the bytes cut every 65,536 bytes from their front; the last piece may be shorter
abbrev pub pieces_of : List ℕ → List (List ℕ)
pieces_of bytes = map (λ k. take longest_piece (drop (longest_piece * k) bytes)) (range_with_len 0 ((length bytes + (longest_piece - 1)) / longest_piece))

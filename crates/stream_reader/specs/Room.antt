-- How much a reader of a stream holds.
use Rattle.std.specs.Prelude.{ℕ}

-- the most bytes that it has room for
abbrev pub reader_room : ℕ
reader_room = 4325376

-- The most that it holds before the end where no further note is decided: 65,535 foreign bytes, and then all but one of
-- the bytes of the longest packet.
abbrev pub most_held : ℕ
most_held = 4259837

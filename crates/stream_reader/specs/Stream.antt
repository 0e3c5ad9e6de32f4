-- What a reader of a stream holds, and which notes it gives of it (docs/FORMATS.md, "Streams").
use Rattle.std.specs.Prelude.{◌≡◌, ℕ, ◌<◌, Bool, true, false, List, [], ◌∷◌, ◌++◌, length}
use Rattle.packet_codec.specs.Packet.{SpellsEvent}
use Rattle.packet_codec.specs.Grammar.{AreBytes}
use Rattle.stream_reader.specs.declared.note.Note.{Note}
use Rattle.stream_reader.specs.declared.note.Note.TheVariants as note
use Rattle.stream_reader.specs.Notes.{HasNotes, HasDecided}

-- the bytes fed that belong to no note given, and whether the stream has ended behind them
pub record Held : Type 0 where
  pub bytes : List ℕ
  pub ended : Bool

-- The bytes begin with these notes, and the rest follows: so it is of the bytes as they are, and of the bytes with any
-- others behind them.
pub record BeginsWithNotes (bytes : List ℕ) (given : List Note) (rest : List ℕ) : Type 0 where
  pub notes : (more : List ℕ) (others : List Note) → AreBytes more → HasNotes (rest ++ more) others → HasNotes (bytes ++ more) (given ++ others)
  pub decided : (more : List ℕ) (others : List Note) → AreBytes more → HasDecided (rest ++ more) others → HasDecided (bytes ++ more) (given ++ others)

-- the notes of the bytes, as the end of a stream, are these and those of the rest
pub record EndsWithNotes (bytes : List ℕ) (given : List Note) (rest : List ℕ) : Type 0 where
  pub notes : (others : List Note) → HasNotes rest others → HasNotes bytes (given ++ others)

-- the notes that the bytes give, and what is left of them, of a stream that has ended or goes on
abbrev pub HasGiven : Bool → List ℕ → List Note → List ℕ → Type 0
HasGiven false = BeginsWithNotes
HasGiven true = EndsWithNotes

-- the note is made of these bytes
abbrev pub IsMadeOf : Note → List ℕ → Type 0
IsMadeOf (note.Event event) bytes = SpellsEvent bytes event
IsMadeOf (note.Foreign run) bytes = run ≡ bytes

-- so it is of each note, and their bytes stand in order
abbrev pub AreMadeOf : List Note → List ℕ → Type 0
AreMadeOf [] bytes = bytes ≡ []
AreMadeOf (first ∷ notes) bytes = (front : List ℕ) × (rest : List ℕ) × (bytes ≡ front ++ rest) × IsMadeOf first front × AreMadeOf notes rest

-- the first note was given, and its bytes let go of
pub record GivesNote (before : Held) (given : Note) (after : Held) : Type 0 where
  pub front : List ℕ
  pub parts : before.bytes ≡ front ++ after.bytes
  pub some : 0 < length front
  pub made : IsMadeOf given front
  pub first : HasGiven before.ended before.bytes (given ∷ []) after.bytes

-- no further note can be told: none is decided yet, or the stream has ended and no bytes are left
abbrev pub IsSpent : Bool → List ℕ → Type 0
IsSpent false bytes = HasDecided bytes []
IsSpent true bytes = bytes ≡ []

-- the next notes were given, behind those that were given before
pub record GivesNotes (before : Held) (old : List Note) (after : Held) (new : List Note) : Type 0 where
  pub given : List Note
  pub new_is : new ≡ old ++ given
  pub first : HasGiven before.ended before.bytes given after.bytes
  pub ended : after.ended ≡ before.ended

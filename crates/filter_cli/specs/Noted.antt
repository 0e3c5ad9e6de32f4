-- A filter of notes at work. `takes` says which notes it has taken.
use Rattle.std.specs.Prelude.{◌≡◌, ℕ, false, List, [], ◌∷◌, ◌++◌}
use Rattle.packet_codec.specs.Grammar.{AreBytes}
use Rattle.stream_end.specs.Character.{missing_after_note}
use Rattle.stream_end.specs.Inside.{ends_inside_behind}
use Rattle.stream_reader.specs.declared.note.Note.{Note}
use Rattle.stream_reader.specs.declared.first_note.First.{First}
use Rattle.stream_reader.specs.Notes.{HasDecided}
use Rattle.stream_reader.specs.First.{IsMadeBy}
use Rattle.stream_reader.specs.Stream.{Held, BeginsWithNotes, GivesNote, GivesNotes}
use Rattle.filter_cli.specs.Plan.{Plan}
use Rattle.filter_cli.specs.Script.{given_by}

-- These are bytes, and so are those that are held of them. Whatever follows, both end inside a packet, or neither does,
-- where so many bytes are missing to a character in front of each.
pub record EndsAsHeld (missing : ℕ) (fed : List ℕ) (now : ℕ) (held : List ℕ) : Type 0 where
  pub are : AreBytes fed
  pub left : AreBytes held
  pub alike : (more : List ℕ) → AreBytes more → ends_inside_behind missing (fed ++ more) ≡ ends_inside_behind now (held ++ more)

-- Of the bytes fed, these are held behind a character to which so many are missing. It has taken all notes that they
-- decide, and this text was appended.
pub record HasFiltered (takes : List Note → Type 0) (plan : Plan) (missing : ℕ) (held fed shown : List ℕ) : Type 0 where
  pub notes : List Note
  pub taken : takes notes
  pub begins : BeginsWithNotes fed notes held
  pub spent : HasDecided held []
  pub ends : EndsAsHeld 0 fed missing held
  pub made : shown ≡ given_by plan notes

-- a note was taken that is made of what is first, and what it gives was appended
pub record TakesFirstNote (takes later : List Note → Type 0) (plan : Plan) (bytes : List ℕ) (first : First) (old new : List ℕ) : Type 0 where
  pub note : Note
  pub made : IsMadeBy bytes first note
  pub taken : (notes : List Note) → takes notes → later (notes ++ note ∷ [])
  pub grown : (notes : List Note) → takes notes → new ≡ old ++ plan.gives notes note

-- the first note was given and taken, and what it gives was appended
pub record TakesNext (takes later : List Note → Type 0) (plan : Plan) (before after : Held) (missing now : ℕ) (old new : List ℕ) : Type 0 where
  pub note : Note
  pub given : GivesNote before note after
  pub heard : now ≡ missing_after_note missing note
  pub taken : (notes : List Note) → takes notes → later (notes ++ note ∷ [])
  pub grown : (notes : List Note) → takes notes → new ≡ old ++ plan.gives notes note

-- the next notes were given and taken, and what they give was appended
pub record TakesNotes (takes : List Note → Type 0) (plan : Plan) (notes : List Note) (before after : Held) (missing now : ℕ) (old new : List ℕ) : Type 0 where
  pub all : List Note
  pub given : GivesNotes before notes after all
  pub taken : takes all
  pub ends : before.ended ≡ false → AreBytes before.bytes → EndsAsHeld missing before.bytes now after.bytes
  pub more : List ℕ
  pub grown : new ≡ old ++ more
  pub made : given_by plan all ≡ given_by plan notes ++ more

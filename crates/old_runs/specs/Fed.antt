-- A file that is read piece by piece.
use Rattle.std.specs.Prelude.{◌≡◌, ℕ, Bool, true, false, List, [], ◌∷◌, ◌++◌, length, nat_lt}
use Rattle.packet_codec.specs.Grammar.{AreBytes}
use Rattle.packet_codec.specs.declared.event.Event.{Event}
use Rattle.outcome_fold.specs.Outcome.{HasFolded}
use Rattle.old_runs.specs.declared.file.Kind.{Kind}
use Rattle.old_runs.specs.declared.file.Kind.TheVariants as kind
use Rattle.old_runs.specs.declared.file.OldFile.{OldFile}
use Rattle.old_runs.specs.declared.failing_tests.OldFailing.{OldFailing}
use Rattle.old_runs.specs.Files.{is_stream}
use Rattle.old_runs.specs.Lines.{HasFedLines, AreReadyLines}
use Rattle.old_runs.specs.Streams.{HasFedStream, AreGoingOn}

-- the next bytes may be fed
abbrev pub CanBeFed : Kind → Type 0
CanBeFed (kind.Lines lines) = AreReadyLines lines
CanBeFed (kind.Stream stream) = AreGoingOn stream

-- these bytes were fed to a reader of the kind that they ask for, and these events were handed on
abbrev pub HasFedKind : (stream : Bool) → Kind → List ℕ → List Event → Type 0
HasFedKind false (kind.Lines lines) bytes given = HasFedLines lines bytes given
HasFedKind true (kind.Lines lines) bytes given = ⊥
HasFedKind false (kind.Stream stream) bytes given = ⊥
HasFedKind true (kind.Stream stream) bytes given = HasFedStream stream bytes given

-- these bytes were fed, and these events were handed on
pub record HasFed (file : OldFile) (bytes : List ℕ) (given : List Event) : Type 0 where
  pub are_bytes : AreBytes bytes
  pub ready : CanBeFed file.kind
  pub begun : file.begun ≡ nat_lt 0 (length bytes)
  pub fed : HasFedKind (is_stream bytes) file.kind bytes given

-- The same before bytes that begin so: the reader is of the kind that they ask for.
pub record HasBegun (file : OldFile) (bytes : List ℕ) (given : List Event) (first : ℕ) : Type 0 where
  pub are_bytes : AreBytes bytes
  pub begun : file.begun ≡ true
  pub fed : HasFedKind (is_stream (bytes ++ first ∷ [])) file.kind bytes given

-- some bytes were fed, or none yet
abbrev pub IsFed : OldFile → Type 0
IsFed file = (bytes : List ℕ) × (given : List Event) × HasFed file bytes given

-- these bytes were fed, and the events that they tell so far were folded
pub record HasHeardFile (failing : OldFailing) (bytes : List ℕ) : Type 0 where
  pub events : List Event
  pub fed : HasFed failing.file bytes events
  pub folded : HasFolded failing.outcomes events

-- some bytes were fed, or none yet, and the events that they tell so far were folded
abbrev pub HasHeardSome : OldFailing → Type 0
HasHeardSome failing = (bytes : List ℕ) × HasHeardFile failing bytes

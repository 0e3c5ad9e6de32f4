-- Which runs a question is of.
use Rattle.std.specs.Prelude.{true}
use Rattle.testr_words.specs.declared.command.Question.{Question}
use Rattle.testr_words.specs.declared.command.Question.TheVariants.{Last, Skips, Notes, Slowest}

-- whether it is of the last run's bytes
abbrev pub OfBytes : Question → Type 0
OfBytes (Last true) = Unit {0}
OfBytes question = ⊥

-- whether the question is of the last run
abbrev pub OfLastRun : Question → Type 0
OfLastRun (Last subunit) = Unit {0}
OfLastRun Skips = Unit {0}
OfLastRun (Notes skips) = Unit {0}
OfLastRun (Slowest all) = Unit {0}
OfLastRun question = ⊥

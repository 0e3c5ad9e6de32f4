-- Times in a document (docs/FORMATS.md, "JUnit XML").
use Rattle.std.specs.Prelude.{ℕ, Option, List}
use Rattle.std.specs.Option.{unwrap_or}
use Rattle.sub_number.specs.Seconds.{printed_seconds}

-- the time, which is zero where none is known
abbrev pub seconds_text : Option ℕ → List ℕ
seconds_text nanos = printed_seconds (unwrap_or nanos 0)

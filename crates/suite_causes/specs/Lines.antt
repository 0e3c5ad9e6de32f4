-- The line that tells what a search found (docs/FORMATS.md, "Causes").
use Rattle.std.specs.Prelude.{ℕ, List, [], ◌∷◌, ◌++◌, codes, slice_index_or}
use Rattle.isolation_bisect.specs.declared.found.Found.{Found}
use Rattle.isolation_bisect.specs.declared.found.Found.TheVariants as found
use Rattle.suite_causes.specs.declared.line.CauseLine.{CauseLine}
use Rattle.suite_causes.specs.Searching.{TestIds}

-- what is said behind the id
abbrev pub finding_text : Found → List ℕ
finding_text found.Alone = codes ": fails alone"
finding_text found.NotSeen = codes ": not reproduced"
finding_text found.Several = codes ": several tests together"
finding_text (found.Cause cause) = codes ": caused by "

-- and behind that the cause, where there is one
abbrev pub cause_of : (candidates : TestIds) → Found → List ℕ
cause_of candidates found.Alone = []
cause_of candidates found.NotSeen = []
cause_of candidates found.Several = []
cause_of candidates (found.Cause cause) = slice_index_or candidates cause []

-- the line of a test: its id, what the search found, and the cause where it found one
abbrev pub cause_line : (test : List ℕ) → (candidates : TestIds) → Found → List ℕ
cause_line test candidates found = test ++ finding_text found ++ cause_of candidates found ++ 10 ∷ []

-- the bytes of the parts, one after another, and the newline behind them
abbrev pub line_bytes : CauseLine → List ℕ
line_bytes line = line.test.now ++ line.said.now ++ line.cause.now ++ 10 ∷ []

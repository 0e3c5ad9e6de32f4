-- Patterns that a filter is given, and what is told of a bad one (docs/COMMANDS.md, "Refusals").
use Rattle.std.specs.Prelude.{ℕ, ⊤, All, List, [], ◌∷◌, ◌++◌, codes, Result, Ok, Err}
use Rattle.event_sift.specs.declared.rules.Rules.{Rules}
use Rattle.partition_times.specs.Patterns.{IsPattern}
pub use Rattle.partition_times.specs.Patterns.{IsFirstBadText}
use Rattle.filter_cli.specs.declared.selection.Selection.{Selection}
use Rattle.filter_cli.specs.declared.patterns.PatternsFault.{PatternsFault}
use Rattle.filter_cli.specs.declared.patterns.PatternsFault.TheVariants.{Bad, NoMemory}

-- the rules of a selection
abbrev pub rules_of_selection : Selection → Rules
rules_of_selection selection = record {
  success = selection.success;
  failure = selection.failure;
  skip = selection.skip;
  xfail = selection.xfail;
  with_tags = selection.with_tags;
  without_tags = selection.without_tags;
  with_ids = selection.with_ids;
  without_ids = selection.without_ids;
}

-- the patterns are refused so: the first bad one is named, or memory was wanting
abbrev pub AreRefused : List (List ℕ) → PatternsFault → Type 0
AreRefused patterns (Bad text) = IsFirstBadText patterns text
AreRefused patterns NoMemory = ⊤

-- the patterns are good, or the first bad one is named, or memory is wanting
abbrev pub CompilesPatterns : {A : Type 0} → List (List ℕ) → Result A PatternsFault → Type 0
CompilesPatterns patterns (Ok value) = All IsPattern patterns
CompilesPatterns patterns (Err fault) = AreRefused patterns fault

-- ---- the status, and the line behind the filter's name

-- the exit status where patterns are refused: 3 for a bad one, 5 where memory was wanting
abbrev pub patterns_exit_status : PatternsFault → ℕ
patterns_exit_status (Bad text) = 3
patterns_exit_status NoMemory = 5

-- what the line of that refusal says behind the filter's name; it ends with a newline
abbrev pub patterns_text : PatternsFault → List ℕ
patterns_text (Bad text) = codes ": bad pattern: " ++ (text ++ 10 ∷ [])
patterns_text NoMemory = codes ": out of memory\n"

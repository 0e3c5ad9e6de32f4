-- The patterns that a file lists (docs/FORMATS.md, "Lists of patterns").
use Rattle.std.specs.Prelude.{◌≡◌, ⊤, ℕ, Bool, false, None, IfSome, IfOk, IfErr, All, List, [], slice_index_or, Result, Ok, Err}
use Rattle.edge_io.specs.Causes.{RisesExactlyIf}
use Rattle.edge_io.specs.Disk.{Files}
use Rattle.edge_io.specs.Seen.{Seen}
use Rattle.partition_times.specs.Patterns.{IsPattern, IsFirstBad}
use Rattle.suite_plan.specs.LoadList.{list_failed, NamesList}
use Rattle.suite_plan.specs.Texts.{HasText, HasTooMuch}
use Rattle.suite_plan.specs.declared.load_list.ListRefusal.TheVariants.{Site, TooLong, Absent, NotId, NoMemory}
use Rattle.suite_plan.specs.declared.pattern_list.PatternListRefusal.{PatternListRefusal}
use Rattle.suite_plan.specs.declared.pattern_list.PatternListRefusal.TheVariants.{List as Unlisted, Bad}
use Rattle.testr_conf.specs.ListedIds.{patterns_in, line_of_pattern}
use Rattle.testr_conf.specs.declared.ids.IdsFault.TheVariants.{NotText}

-- the file of this name is there, not too long, and lists these patterns, which are good
pub record IsPatternList (name : List ℕ) (patterns : List (List ℕ)) (files : Files) : Type 0 where
  pub text : List ℕ
  pub has : HasText files name text
  pub says : patterns_in text ≡ Ok patterns
  pub good : All IsPattern patterns

-- it is there and not too long, and this line is its first that is no text
pub record HasOtherLine (name : List ℕ) (number : ℕ) (files : Files) : Type 0 where
  pub text : List ℕ
  pub has : HasText files name text
  pub says : patterns_in text ≡ Err (NotText number)

-- it is there and not too long, its lines are texts, and the first bad pattern among them is this one, in this line
pub record HasBadLine (name : List ℕ) (number : ℕ) (pattern : List ℕ) (files : Files) : Type 0 where
  pub text : List ℕ
  pub has : HasText files name text
  pub patterns : List (List ℕ)
  pub says : patterns_in text ≡ Ok patterns
  pub index : ℕ
  pub first : IsFirstBad patterns index
  pub there : pattern ≡ slice_index_or patterns index []
  pub line : number ≡ line_of_pattern text index

-- what is so of the files where the list of this name is refused so
abbrev pub HasPatternsCause : List ℕ → PatternListRefusal → Files → Type 0
HasPatternsCause name (Unlisted Site) files = ⊤
HasPatternsCause name (Unlisted (TooLong given)) files = HasTooMuch files name
HasPatternsCause name (Unlisted (Absent given)) files = files name ≡ None
HasPatternsCause name (Unlisted (NotId given number)) files = HasOtherLine name number files
HasPatternsCause name (Unlisted NoMemory) files = ⊤
HasPatternsCause name (Bad line) files = HasBadLine name line.number line.pattern files

-- a refusal that names a file names this one
abbrev pub NamesPatterns : List ℕ → PatternListRefusal → Type 0
NamesPatterns name (Unlisted refusal) = NamesList name refusal
NamesPatterns name (Bad line) = line.name.now ≡ name

-- whether a read failed
abbrev pub patterns_failed : {T : Type 0} → Result T PatternListRefusal → Bool
patterns_failed (Ok value) = false
patterns_failed {T = T} (Err (Unlisted refusal)) = list_failed {T = T} (Err refusal)
patterns_failed (Err (Bad line)) = false

-- The step that reads the list of patterns of this name. What it says of files holds where they are told.
pub record ReadsPatternList (name : List ℕ) (before after : Seen Files) (result : Result (List (List ℕ)) PatternListRefusal) : Type 0 where
  pub patterns : IfOk result (λ patterns. IfSome before.told (IsPatternList name patterns))
  pub refused : IfErr result (λ refusal. IfSome before.told (HasPatternsCause name refusal))
  pub named : IfErr result (NamesPatterns name)
  pub same : after.told ≡ before.told
  pub count : RisesExactlyIf before.faults after.faults (patterns_failed result)

-- ---- the bytes of a list

-- the pattern of this index is told with its file and its line, or memory is wanting
abbrev pub TellsBadLine : (name text : List ℕ) → (patterns : List (List ℕ)) → (index : ℕ) → PatternListRefusal → Type 0
TellsBadLine name text patterns index (Unlisted refusal) = refusal ≡ NoMemory
TellsBadLine name text patterns index (Bad line) = (line.name.now ≡ name) × (line.number ≡ line_of_pattern text index) × (line.pattern ≡ slice_index_or patterns index [])

-- the first bad pattern of these bytes is told so
pub record TellsFirstBad (name text : List ℕ) (refusal : PatternListRefusal) : Type 0 where
  pub patterns : List (List ℕ)
  pub says : patterns_in text ≡ Ok patterns
  pub index : ℕ
  pub first : IsFirstBad patterns index
  pub told : TellsBadLine name text patterns index refusal

-- what is told of these bytes, which are not too many
abbrev pub TellsPatterns : (name text : List ℕ) → Result (List (List ℕ)) PatternListRefusal → Type 0
TellsPatterns name text (Ok patterns) = (patterns_in text ≡ Ok patterns) × All IsPattern patterns
TellsPatterns name text (Err (Unlisted Site)) = ⊥
TellsPatterns name text (Err (Unlisted (TooLong given))) = ⊥
TellsPatterns name text (Err (Unlisted (Absent given))) = ⊥
TellsPatterns name text (Err (Unlisted (NotId given number))) = (given.now ≡ name) × (patterns_in text ≡ Err (NotText number))
TellsPatterns name text (Err (Unlisted NoMemory)) = ⊤
TellsPatterns name text (Err (Bad line)) = TellsFirstBad name text (Bad line)

-- The lists of further patterns, and the file of times, that are named.
use Rattle.std.specs.Prelude.{◌≡◌, ℕ, Option, None, Some, IfSome, IsSomeAnd, List}
use Rattle.edge_io.specs.Disk.{Files}
use Rattle.suite_plan.specs.Choosing.{Ids}
use Rattle.suite_plan.specs.PatternList.{IsPatternList}
use Rattle.command_steps.specs.declared.test_selection.Further.{Further}
use Rattle.command_steps.specs.Selecting.{TimesById}
use Rattle.command_steps.specs.TimesFile.{IsTimesFile}
use Rattle.testr_words.specs.Suites.{Wanted}

-- these are the patterns of the list of this name, and none where no list is named
abbrev pub GivesPatterns : (name : Option (List ℕ)) → (patterns : Option Ids) → Option Files → Type 0
GivesPatterns None patterns files = patterns ≡ None
GivesPatterns (Some name) patterns files = IsSomeAnd patterns (λ patterns. IfSome files (IsPatternList name patterns))

-- these are the times of the file of this name, and none where no file is named
abbrev pub GivesTimes : (name : Option (List ℕ)) → (times : Option TimesById) → Option Files → Type 0
GivesTimes None times files = times ≡ None
GivesTimes (Some name) times files = IsSomeAnd times (λ times. IfSome files (IsTimesFile name times))

-- so it is of both lists, and of the file of times
pub record GivesFurther (wanted : Wanted) (further : Further) (files : Option Files) : Type 0 where
  pub including : GivesPatterns wanted.include_list further.picks.including files
  pub excluding : GivesPatterns wanted.exclude_list further.picks.excluding files
  pub times : GivesTimes wanted.times further.times files

-- the list of this name can be read, and its patterns are good
abbrev pub HasPatterns : (name : List ℕ) → Files → Type 0
HasPatterns name files = (patterns : Ids) × IsPatternList name patterns files

-- the file of this name has the form of times
abbrev pub HasTimes : (name : List ℕ) → Files → Type 0
HasTimes name files = (times : TimesById) × IsTimesFile name times files

-- so it is of each list that is named, and of the file of times
pub record CanReadFurther (wanted : Wanted) (files : Option Files) : Type 0 where
  pub include : IfSome wanted.include_list (λ name. IsSomeAnd files (HasPatterns name))
  pub exclude : IfSome wanted.exclude_list (λ name. IsSomeAnd files (HasPatterns name))
  pub times : IfSome wanted.times (λ name. IsSomeAnd files (HasTimes name))

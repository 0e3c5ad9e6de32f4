-- The list of a folder's names (docs/DISK.md, the shelf).
use Rattle.std.specs.Prelude.{IsTrue, ◌≡◌, ◌↔◌, ℕ, ◌≤◌, Option, IfSome, IsSome, List, Contains, Result, Err, OnOk}
use Rattle.std.specs.BTreeSet.{BTreeSet, contains}
use Rattle.std.specs.Cmp.Lexicographic.{slice_cmp}
use Rattle.std.specs.List.Sorted.{IsStrictlySortedBy}
use Rattle.std.specs.Ordering.{nat_cmp}
use Rattle.sub_number.specs.Texts.{IsShortText}
use Rattle.edge_io.specs.Causes.{Rose}
use Rattle.edge_io.specs.Disk.{Files, Folder}
use Rattle.edge_io.specs.declared.names.NamesFault.{NamesFault}
use Rattle.edge_io.specs.declared.names.NamesFault.TheVariants.{Failed, NoMemory}

-- the names that are texts and have a file, each once, in the order of their bytes
pub record AreNamesOf (files : Files) (names : List (List ℕ)) : Type 0 where
  pub ordered : IsStrictlySortedBy (slice_cmp nat_cmp) names
  pub each : (name : List ℕ) → Contains names name ↔ (IsShortText name × IsSome (files name))

-- the set of these names
abbrev pub HasNamesOf : Files → BTreeSet (List ℕ) → Type 0
HasNamesOf files found = (name : List ℕ) → IsTrue (contains (slice_cmp nat_cmp) found name) ↔ (IsShortText name × IsSome (files name))

-- the names of a set, in order
pub record ListsInOrder (found : BTreeSet (List ℕ)) (names : List (List ℕ)) : Type 0 where
  pub is : names ≡ found.keys
  pub ordered : IsStrictlySortedBy (slice_cmp nat_cmp) names

-- where the folder is told, these are its published names
abbrev pub ListsNames : Option Folder → List (List ℕ) → Type 0
ListsNames state names = IfSome state (λ s. AreNamesOf s.disk.published names)

-- the count never falls, where the call failed it rose, and else it stands
pub record HasNamesCause {T : Type 0} (before now : ℕ) (result : Result T NamesFault) : Type 0 where
  pub later : before ≤ now
  pub failed : result ≡ Err Failed → Rose before now
  pub done : OnOk result (now ≡ before)
  pub no_memory : result ≡ Err NoMemory → now ≡ before

-- What is known of a folder that was looked at.
use Rattle.std.specs.Prelude.{◌<◌, Bool, Option, IfSome, List}
use Rattle.std.specs.Vec.{vec_len, vec_capacity}
use Rattle.edge_io.specs.Disk.{Folder}
use Rattle.run_shelf.specs.declared.found.Found.{Found}
use Rattle.run_shelf.specs.Images.{AtRest}
use Rattle.run_shelf.specs.Repository.{IsRepository, HasKinds}

-- whether each run is partial, in the order of their numbers
abbrev pub kinds_of : Found → List Bool
kinds_of found = found.kinds.items

-- there is room for one run more
abbrev pub HasRoom : Found → Type 0
HasRoom found = vec_len found.kinds < vec_capacity found.kinds

-- the folder is a repository of runs of these kinds, and nothing is pending
pub record FitsFolder (kinds : List Bool) (s : Folder) : Type 0 where
  pub rest : AtRest s
  pub repository : IsRepository s.disk.published
  pub kinds_are : HasKinds s.disk.published kinds

-- where the folder is told, it has runs of these kinds
abbrev pub FitsWhereTold : List Bool → Option Folder → Type 0
FitsWhereTold kinds state = IfSome state (FitsFolder kinds)

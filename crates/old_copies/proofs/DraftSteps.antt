-- A file that is kept: its draft is written, and placed then.
use Rattle.std.proofs.Common.{ℕ, Option, List}
use Rattle.edge_io.specs.Disk.{Folder}
use Rattle.edge_io.specs.Steps.{Goes}
use Rattle.run_shelf.specs.Drafts.{OfDraft, Writes}
use Rattle.run_shelf.specs.Images.{PassesFile}
use Rattle.run_shelf.proofs.KeepSteps.{file_passes}

pub file_moments : (name bytes : List ℕ) (a b c : Option Folder) → Goes a b (Writes bytes) → Goes b c (OfDraft (PassesFile name)) → Goes a c (PassesFile name bytes)
file_moments name bytes a b c written passes = file_passes name bytes a b c written passes

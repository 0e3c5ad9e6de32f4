use Rattle.std.proofs.Common.{◌≡◌, ◌-◌, length}
use Rattle.edge_io.proofs.FilesLemmas.{IsReadingFile}
use Rattle.edge_io.proofs.whole_file.read_file.Given as goal

abbrev pub invariant-loop-bytes : goal.invariant-loop-bytes
invariant-loop-bytes g l = IsReadingFile (g.F.Site.seen l.initial.site) (g.F.Site.seen l.site) l.name l.most l.bytes.items × (g.F.Site.folder l.site ≡ g.F.Site.folder l.initial.site)

abbrev pub decreases-loop-bytes : goal.decreases-loop-bytes
decreases-loop-bytes g l = l.most - length l.bytes.items

use Rattle.std.proofs.Common.{◌≡◌, ◌∙◌, ap, sym, subst}
use Rattle.std.proofs.lemmas.Result.{IfOk-weaker}
use Rattle.edge_io.specs.Disk.{Files}
use Rattle.edge_io.specs.Kept.{lookup}
use Rattle.edge_io.specs.MemState.{folder_of}
use Rattle.edge_io.specs.Names.{AreNamesOf}
use Rattle.edge_io.proofs.KeptLemmas.{published_all}
use Rattle.edge_io.proofs.mem_shelf.MemShelfShelf.names.Goals as goal

pub returns-clause-found : goal.returns-clause-found
returns-clause-found c =
    let s = c.args.self.now in
    let published : lookup c.deref.result.now ≡ (folder_of s).disk.published =
    ap lookup c.deref.ensures.value ∙ sym (published_all s.files.items s.current s.settled_first s.one_pending s.all_published) in
    IfOk-weaker c.names_of.result (λ names. AreNamesOf (lookup c.deref.result.now) names.items) (λ names. AreNamesOf (folder_of s).disk.published names.items)
    (λ names are. subst (λ (files : Files). AreNamesOf files names.items) published are) c.names_of.ensures.names

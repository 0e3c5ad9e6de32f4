use Rattle.std.proofs.Common.{◌≡◌, sym, subst, List, ℕ, Option, IfSome}
use Rattle.edge_io.specs.Disk.{Folder}
use Rattle.edge_io.specs.Names.{AreNamesOf}
use Rattle.run_shelf.proofs.LookSteps.{stays_back, stays_then}
use Rattle.old_folder.specs.Olds.{next_of}
use Rattle.old_folder.proofs.CountLemmas.{counts_old}
use Rattle.old_folder.proofs.folder_survey.look.Goals as goal

pub returns-in-Ok-Some-clause-found : goal.returns-in-Ok-Some-clause-found
returns-in-Ok-Some-clause-found g c =
    let state = (g.H.Shelf.seen c.args.shelf.now).told in
    let names = c.deref.result.now in
    let lists = stays_back state _ c.in-Ok.ensures.same (λ (s : Folder). AreNamesOf s.disk.published c.in-Ok-names.names.items) c.in-Ok-names.ensures.found in
    let listed = subst (λ (l : List (List ℕ)). IfSome state (λ s. AreNamesOf s.disk.published l)) (sym c.deref.ensures.value) lists in
    let same = stays_then state _ _ c.in-Ok.ensures.same c.in-Ok-names.ensures.same in
    let read = stays_back state _ same (λ (s : Folder). c.in-Ok-Some.field-0 ≡ next_of s.disk.published) c.in-Ok-Some.ensures.found in
    let tells = subst (λ (o : Option ℕ). IfSome state (λ s. o ≡ next_of s.disk.published)) c.in-Ok-Some.field-0-is read in
    counts_old state names c.in-Ok-Some.next c.run_count.result c.in-Ok.ensures.right listed tells c.run_count.ensures

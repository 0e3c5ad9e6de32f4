use Rattle.std.proofs.Common.{sym, subst, List, ℕ, IfSome}
use Rattle.std.proofs.lemmas.Result.{IfOk-weaker, IfErr-weaker}
use Rattle.edge_io.specs.Disk.{Folder}
use Rattle.edge_io.specs.Names.{AreNamesOf}
use Rattle.edge_io.specs.Steps.{Goes}
use Rattle.run_shelf.specs.Holds.{kinds_of}
use Rattle.run_shelf.specs.Looking.{ShowsKinds, LookFails, CountsOld}
use Rattle.run_shelf.specs.Marks.{NamesTellKinds, NamesFail}
use Rattle.run_shelf.proofs.LookSteps.{counted_by, looks_like, names_fail, stays_back, stays_then}
use Rattle.run_shelf.proofs.names.look.Goals as goal

pub returns-clause-found : goal.returns-clause-found
returns-clause-found g c =
    let state = (g.H.Shelf.seen c.args.shelf.now).told in
    let names = c.deref.result.now in
    let old = c.in-Ok-old_runs.old in
    let same = stays_then state _ _ c.in-Ok.ensures.same c.in-Ok-old_runs.ensures.same in
    let known = counted_by c.in-Ok.format old state c.in-Ok.ensures.right (stays_back state _ c.in-Ok.ensures.same (CountsOld old) c.in-Ok-old_runs.ensures.count) in
    let lists = stays_back state _ same (λ (s : Folder). AreNamesOf s.disk.published c.in-Ok-names.names.items) c.in-Ok-names.ensures.found in
    let listed = subst (λ (l : List (List ℕ)). IfSome state (λ s. AreNamesOf s.disk.published l)) (sym c.deref.ensures.value) lists in
    IfOk-weaker c.runs_of.result (λ found. NamesTellKinds names old (kinds_of found)) (λ found. IfSome state (ShowsKinds (kinds_of found)))
    (λ found have. looks_like state names old known listed (kinds_of found) have) c.runs_of.ensures.found

pub returns-clause-refused : goal.returns-clause-refused
returns-clause-refused g c =
    let state = (g.H.Shelf.seen c.args.shelf.now).told in
    let later = (g.H.Shelf.seen c.names.new.self).told in
    let names = c.deref.result.now in
    let old = c.in-Ok-old_runs.old in
    let same = stays_then state _ _ c.in-Ok.ensures.same c.in-Ok-old_runs.ensures.same in
    let known = counted_by c.in-Ok.format old state c.in-Ok.ensures.right (stays_back state _ c.in-Ok.ensures.same (CountsOld old) c.in-Ok-old_runs.ensures.count) in
    let lists = stays_back state _ same (λ (s : Folder). AreNamesOf s.disk.published c.in-Ok-names.names.items) c.in-Ok-names.ensures.found in
    let listed = subst (λ (l : List (List ℕ)). IfSome state (λ s. AreNamesOf s.disk.published l)) (sym c.deref.ensures.value) lists in
    let all = stays_then state _ later same c.in-Ok-names.ensures.same in
    IfErr-weaker c.runs_of.result (NamesFail names old) (λ fault. Goes state later (LookFails fault))
    (λ fault fails. names_fail state names old known listed fault later all fails) c.runs_of.ensures.refused

use Rattle.std.proofs.Common.{◌≡◌, subst, Option, ℕ, length, rules}
use Rattle.std.specs.Prelude.{IfSome}
use Rattle.edge_io.specs.Disk.{Folder}
use Rattle.edge_io.specs.Steps.{FindsLength, IsPart}
use Rattle.run_shelf.specs.Repository.{format_name, HasOtherFormat}
use Rattle.run_shelf.proofs.LookSteps.{other_format, goes_known, stays_back, stays_then}
use Rattle.run_shelf.proofs.names.read_format.Goals as goal

pub returns-in-None-clause-refused : goal.returns-in-None-clause-refused
returns-in-None-clause-refused g c =
    let state = (g.H.Shelf.seen c.args.shelf.now).told in
    let buf = c.read_at.new.buf in
    let count = c.in-Ok-read_at.count in
    let same = stays_then state _ _ c.in-Ok.ensures.same c.in-Ok-read_at.ensures.same in
    let finds = subst (λ (found : Option ℕ). FindsLength state format_name found) c.in-Some.is c.in-Ok.ensures.found in
    let part = stays_back state _ c.in-Ok.ensures.same (λ (s : Folder). IfSome (s.disk.published format_name) (λ bytes. IsPart bytes 0 buf count)) c.in-Ok-read_at.ensures.part in
    let room : length buf ≡ 16 = search rules in
    goes_known state _ same (λ s. HasOtherFormat s.disk.published) (other_format state c.in-Some.size buf count room finds part c.in-None.ensures.none)

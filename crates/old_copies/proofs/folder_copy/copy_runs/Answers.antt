use Rattle.std.proofs.Common.{◌≡◌, ◌∙◌, subst, ℕ, List, Ok, Err, arith}
use Rattle.run_shelf.specs.Repository.{full_name}
use Rattle.old_copies.specs.Copying.{places, IsName, IsRunBelow, CopyStep}
use Rattle.old_copies.proofs.WholeLemmas.{no_runs, runs_then, runs_stop}
use Rattle.old_copies.proofs.folder_copy.copy_runs.Goals as goal

pub loop-number-init : goal.loop-number-init
loop-number-init g c = no_runs c.args.from.now (places (g.H.Shelf.seen c.args.shelf.now) (g.F.Site.seen c.args.site.now)) tt c.requires.rest

pub copy_file-requires : goal.copy_file-requires
copy_file-requires g c = record { rest = c.loop-number.invariant.rest }

pub loop-number-preserved : goal.loop-number-preserved
loop-number-preserved g c =
    let named : c.as_str.result.now ≡ full_name c.loop-number.number = c.as_str.ensures.value ∙ c.run_name-name.ensures in
    runs_then c.loop-number.number c.args.from.now (places (g.H.Shelf.seen c.args.shelf.now) (g.F.Site.seen c.args.site.now)) (places (g.H.Shelf.seen c.loop-number.shelf) (g.F.Site.seen c.loop-number.site)) (places (g.H.Shelf.seen c.copy_file.new.shelf) (g.F.Site.seen c.copy_file.new.site)) tt tt tt c.loop-number.invariant
    (subst (λ (n : List ℕ). CopyStep (IsName n) c.args.from.now (places (g.H.Shelf.seen c.loop-number.shelf) (g.F.Site.seen c.loop-number.site)) (places (g.H.Shelf.seen c.copy_file.new.shelf) (g.F.Site.seen c.copy_file.new.site)) (Ok tt)) named c.in-Ok.ensures)

pub returns-in-Err : goal.returns-in-Err
returns-in-Err g c =
    let named : c.as_str.result.now ≡ full_name c.loop-number.number = c.as_str.ensures.value ∙ c.run_name-name.ensures in
    runs_stop c.args.count c.loop-number.number c.args.from.now (places (g.H.Shelf.seen c.args.shelf.now) (g.F.Site.seen c.args.site.now)) (places (g.H.Shelf.seen c.loop-number.shelf) (g.F.Site.seen c.loop-number.site)) (places (g.H.Shelf.seen c.copy_file.new.shelf) (g.F.Site.seen c.copy_file.new.site)) tt c.in-Err.fault c.loop-number-test.true c.loop-number.invariant
    (subst (λ (n : List ℕ). CopyStep (IsName n) c.args.from.now (places (g.H.Shelf.seen c.loop-number.shelf) (g.F.Site.seen c.loop-number.site)) (places (g.H.Shelf.seen c.copy_file.new.shelf) (g.F.Site.seen c.copy_file.new.site)) (Err c.in-Err.fault)) named c.in-Err.ensures)

pub returns : goal.returns
returns g c =
    let at : c.loop-number.number ≡ c.args.count = omega (arith, c.loop-number-test.false, c.loop-number.auto.number-end) in
    subst (λ (n : ℕ). CopyStep (IsRunBelow n) c.args.from.now (places (g.H.Shelf.seen c.args.shelf.now) (g.F.Site.seen c.args.site.now)) (places (g.H.Shelf.seen c.loop-number.shelf) (g.F.Site.seen c.loop-number.site)) (Ok tt)) at c.loop-number.invariant

use Rattle.std.proofs.Common.{Ok, Err, Result}
use Rattle.old_copies.specs.Copying.{CopiesAll, CopiesOld, places}
use Rattle.old_copies.specs.declared.faults.OldCopyFault.{OldCopyFault}
use Rattle.old_copies.proofs.StepLemmas.{counts_then}
use Rattle.old_copies.proofs.WholeLemmas.{stops_here, stops_there, stops_at_names, rests_all, takes_all, stops_all}
use Rattle.old_copies.proofs.folder_copy.copy_old.Goals as goal

pub returns-in-Err : goal.returns-in-Err
returns-in-Err g c =
    stops_here c.args.from.now (g.H.Shelf.seen c.args.shelf.now) (g.H.Shelf.seen c.check_no_format.new.shelf) (g.F.Site.seen c.args.site.now) c.in-Err.fault c.in-Err.ensures.refused c.check_no_format.ensures.any_moment c.in-Err.ensures.cause c.in-Err.ensures.quiet

pub returns-in-Err-count_runs_at : goal.returns-in-Err-count_runs_at
returns-in-Err-count_runs_at g c =
    stops_there c.args.from.now (g.H.Shelf.seen c.args.shelf.now) (g.H.Shelf.seen c.check_no_format.new.shelf) (g.F.Site.seen c.args.site.now) (g.F.Site.seen c.count_runs_at.new.site) (g.met.H.Shelf.published_counts c.args.shelf.now) c.in-Ok.ensures.free c.count_runs_at.ensures.same
    c.in-Err-count_runs_at.fault c.in-Err-count_runs_at.ensures.refused c.in-Ok.ensures.cause c.in-Err-count_runs_at.ensures.quiet c.in-Err-count_runs_at.ensures.cause

pub returns-in-Err-check_names : goal.returns-in-Err-check_names
returns-in-Err-check_names g c =
    stops_at_names c.args.from.now (g.H.Shelf.seen c.args.shelf.now) (g.H.Shelf.seen c.check_no_format.new.shelf) (g.F.Site.seen c.args.site.now) (g.F.Site.seen c.count_runs_at.new.site) (g.met.H.Shelf.published_counts c.args.shelf.now) c.in-Ok.ensures.free c.count_runs_at.ensures.same
    (g.H.Shelf.seen c.check_names.new.shelf) c.in-Ok-count_runs_at.count c.in-Ok-count_runs_at.ensures.found c.check_names.ensures.same
    c.in-Err-check_names.fault c.in-Err-check_names.ensures.refused (counts_then _ _ _ _ c.in-Ok.ensures.cause c.in-Err-check_names.ensures.cause) c.in-Err-check_names.ensures.quiet c.in-Ok-count_runs_at.ensures.cause

pub copy_all-requires-clause-rest : goal.copy_all-requires-clause-rest
copy_all-requires-clause-rest g c =
    rests_all c.args.from.now (g.H.Shelf.seen c.args.shelf.now) (g.H.Shelf.seen c.check_no_format.new.shelf) (g.F.Site.seen c.args.site.now) (g.F.Site.seen c.count_runs_at.new.site) (g.met.H.Shelf.published_counts c.args.shelf.now) c.in-Ok.ensures.free c.count_runs_at.ensures.same
    (g.H.Shelf.seen c.check_names.new.shelf) c.in-Ok-count_runs_at.count c.in-Ok-count_runs_at.ensures.found c.check_names.ensures.same

pub returns : goal.returns
returns g c = by c.copy_all.result c.copy_all.ensures
  where
    by : (result : Result (Unit {0}) OldCopyFault)
        → CopiesAll c.in-Ok-count_runs_at.count c.args.from.now (places (g.H.Shelf.seen c.check_names.new.shelf) (g.F.Site.seen c.count_runs_at.new.site)) (places (g.H.Shelf.seen c.copy_all.new.shelf) (g.F.Site.seen c.copy_all.new.site)) result
        → CopiesOld c.args.from.now (places (g.H.Shelf.seen c.args.shelf.now) (g.F.Site.seen c.args.site.now)) (places (g.H.Shelf.seen c.copy_all.new.shelf) (g.F.Site.seen c.copy_all.new.site)) result
    by (Ok value) all =
        takes_all c.args.from.now (g.H.Shelf.seen c.args.shelf.now) (g.H.Shelf.seen c.check_no_format.new.shelf) (g.F.Site.seen c.args.site.now) (g.F.Site.seen c.count_runs_at.new.site) (g.met.H.Shelf.published_counts c.args.shelf.now) c.in-Ok.ensures.free c.count_runs_at.ensures.same
        (g.H.Shelf.seen c.check_names.new.shelf) c.in-Ok-count_runs_at.count c.in-Ok-count_runs_at.ensures.found c.check_names.ensures.same (g.H.Shelf.seen c.copy_all.new.shelf) (g.F.Site.seen c.copy_all.new.site)
        c.in-Ok-check_names.ensures.alone (counts_then _ _ _ _ c.in-Ok.ensures.cause c.in-Ok-check_names.ensures.cause) c.in-Ok-count_runs_at.ensures.cause value all
    by (Err bad) all =
        stops_all c.args.from.now (g.H.Shelf.seen c.args.shelf.now) (g.H.Shelf.seen c.check_no_format.new.shelf) (g.F.Site.seen c.args.site.now) (g.F.Site.seen c.count_runs_at.new.site) (g.met.H.Shelf.published_counts c.args.shelf.now) c.in-Ok.ensures.free c.count_runs_at.ensures.same
        (g.H.Shelf.seen c.check_names.new.shelf) c.in-Ok-count_runs_at.count c.in-Ok-count_runs_at.ensures.found c.check_names.ensures.same (g.H.Shelf.seen c.copy_all.new.shelf) (g.F.Site.seen c.copy_all.new.site)
        c.in-Ok-check_names.ensures.alone (counts_then _ _ _ _ c.in-Ok.ensures.cause c.in-Ok-check_names.ensures.cause) c.in-Ok-count_runs_at.ensures.cause c.in-Ok-count_runs_at.ensures.few bad all

use Rattle.std.proofs.Common.{◌≡◌, ◌∙◌, refl, sym, ap, Some}
use Rattle.old_copies.specs.Copying.{places, IsName}
use Rattle.old_copies.proofs.FileLemmas.{rises, quiet_folder, quiet_site, of_site, of_folder, goes_still, not_put, put_already, put_otherwise, put_now, put_failed}
use Rattle.old_copies.proofs.file.copy_file.Goals as goal

pub returns-in-Err : goal.returns-in-Err
returns-in-Err g c =
    let folder = g.H.Shelf.seen c.args.shelf.now in
    let name = c.args.name.now in
    not_put (IsName name) c.args.from.now (places folder (g.F.Site.seen c.args.site.now)) (places folder (g.F.Site.seen c.read_source_file.new.site)) c.in-Err.ensures.same (goes_still folder.told)
    c.in-Err.fault (λ old files. of_site (IsName name) old files c.in-Err.fault c.in-Err.ensures.failed) (quiet_folder (Unit {0}) folder.faults c.in-Err.fault c.in-Err.ensures.failed) c.in-Err.ensures.cause

pub returns-in-Err-read_here : goal.returns-in-Err-read_here
returns-in-Err-read_here g c =
    let bad = c.in-Err-read_here.fault in
    let why = c.in-Err-read_here.ensures.failed in
    let name = c.args.name.now in
    not_put (IsName name) c.args.from.now (places (g.H.Shelf.seen c.args.shelf.now) (g.F.Site.seen c.args.site.now)) (places (g.H.Shelf.seen c.read_here.new.shelf) (g.F.Site.seen c.read_source_file.new.site)) c.in-Ok.ensures.same c.in-Err-read_here.ensures.same
    bad (λ old files. of_folder (IsName name) old files bad why) c.in-Err-read_here.ensures.cause (quiet_site (Unit {0}) _ _ bad why c.in-Ok.ensures.cause)

pub returns-in-Same : goal.returns-in-Same
returns-in-Same g c =
    put_already c.args.name.now c.args.from.now (places (g.H.Shelf.seen c.args.shelf.now) (g.F.Site.seen c.args.site.now)) (places (g.H.Shelf.seen c.read_here.new.shelf) (g.F.Site.seen c.read_source_file.new.site)) c.in-Ok.there c.in-Ok-read_here.here c.in-Ok.ensures.same c.in-Ok-read_here.ensures.same c.requires.rest
    c.in-Ok.ensures.found c.in-Ok-read_here.ensures.found c.in-Ok-read_here.ensures.cause c.in-Ok.ensures.cause tt c.in-Same.ensures

pub returns : goal.returns
returns g c =
    put_otherwise c.args.name.now c.args.from.now (places (g.H.Shelf.seen c.args.shelf.now) (g.F.Site.seen c.args.site.now)) (places (g.H.Shelf.seen c.read_here.new.shelf) (g.F.Site.seen c.read_source_file.new.site)) c.in-Ok.there c.in-Ok-read_here.here c.in-Ok.ensures.same c.in-Ok-read_here.ensures.same c.requires.rest
    c.in-Ok.ensures.found c.in-Ok-read_here.ensures.found c.in-Ok-read_here.ensures.cause c.in-Ok.ensures.cause c.in-Other.ensures.0 c.in-Other.ensures.1

pub returns-in-Ok-keep_file : goal.returns-in-Ok-keep_file
returns-in-Ok-keep_file g c =
    let is_new : c.in-Ok.there ≡ Some c.bytes.result.now = c.in-New.ensures.0 ∙ ap Some (sym c.bytes.ensures) in
    put_now c.args.name.now c.args.from.now (places (g.H.Shelf.seen c.args.shelf.now) (g.F.Site.seen c.args.site.now)) (places (g.H.Shelf.seen c.read_here.new.shelf) (g.F.Site.seen c.read_source_file.new.site)) c.in-Ok.there c.in-Ok-read_here.here c.in-Ok.ensures.same c.in-Ok-read_here.ensures.same c.requires.rest
    c.in-Ok.ensures.found c.in-Ok-read_here.ensures.found c.in-Ok-read_here.ensures.cause c.in-Ok.ensures.cause
    (places (g.H.Shelf.seen c.keep_file.new.shelf) (g.F.Site.seen c.read_source_file.new.site)) c.bytes.result.now is_new c.in-New.ensures.1 refl tt c.in-Ok-keep_file.ensures.kept c.keep_file.ensures.any_moment c.in-Ok-keep_file.ensures.cause.done

pub returns-in-New : goal.returns-in-New
returns-in-New g c =
    let is_new : c.in-Ok.there ≡ Some c.bytes.result.now = c.in-New.ensures.0 ∙ ap Some (sym c.bytes.ensures) in
    put_failed c.args.name.now c.args.from.now (places (g.H.Shelf.seen c.args.shelf.now) (g.F.Site.seen c.args.site.now)) (places (g.H.Shelf.seen c.read_here.new.shelf) (g.F.Site.seen c.read_source_file.new.site)) c.in-Ok.there c.in-Ok-read_here.here c.in-Ok.ensures.same c.in-Ok-read_here.ensures.same c.requires.rest
    c.in-Ok.ensures.found c.in-Ok-read_here.ensures.found c.in-Ok-read_here.ensures.cause c.in-Ok.ensures.cause
    (places (g.H.Shelf.seen c.keep_file.new.shelf) (g.F.Site.seen c.read_source_file.new.site)) c.bytes.result.now is_new c.in-New.ensures.1 refl c.in-Err-keep_file.call c.in-Err-keep_file.ensures.failed c.keep_file.ensures.any_moment
    (rises _ _ c.keep_file.result c.in-Err-keep_file.call c.in-Err-keep_file.is c.keep_file.ensures.cause)

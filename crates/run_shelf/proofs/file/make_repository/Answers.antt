use Rattle.std.proofs.Common.{◌≡◌, length, sym}
use Rattle.std.specs.Option.{option_map}
use Rattle.edge_io.specs.Disk.{put}
use Rattle.run_shelf.specs.Images.{HasFormatBeside}
use Rattle.run_shelf.specs.Repository.{format_name, format_bytes}
use Rattle.run_shelf.proofs.Joining.{goes_beside, goes_after, settled_stays, stays_some}
use Rattle.run_shelf.proofs.MakeSteps.{goes_makes, goes_fails, goes_beside_none}
use Rattle.run_shelf.proofs.file.make_repository.Goals as goal

pub returns-in_default-length-clause-any_moment : goal.returns-in_default-length-clause-any_moment
returns-in_default-length-clause-any_moment g c =
    let counts = g.met.H.Shelf.published_counts c.args.shelf.now in
    goes_beside _ _ counts (settled_stays _ _ counts c.in-Ok.ensures.ok _ c.length.ensures.same) HasFormatBeside

pub returns-then-is_some-clause-any_moment : goal.returns-then-is_some-clause-any_moment
returns-then-is_some-clause-any_moment g c =
    let counts = g.met.H.Shelf.published_counts c.args.shelf.now in
    goes_beside _ _ counts (settled_stays _ _ counts c.in-Ok.ensures.ok _ c.length.ensures.same) HasFormatBeside

pub returns-in-Ok-keep_file-clause-made : goal.returns-in-Ok-keep_file-clause-made
returns-in-Ok-keep_file-clause-made g c =
    let counts = g.met.H.Shelf.published_counts c.args.shelf.now in
    let found = c.in-Ok-length.found in
    let finds = stays_some _ _ (λ m. found ≡ option_map length (m.disk.published format_name)) c.in-Ok-length.ensures.found c.length.ensures.same in
    goes_makes _ _ _ (settled_stays _ _ counts c.in-Ok.ensures.ok _ c.length.ensures.same) found finds (sym c.if-is_some.ensures) c.in-Ok-keep_file.ensures.kept

pub returns-in-Ok-keep_file-clause-any_moment : goal.returns-in-Ok-keep_file-clause-any_moment
returns-in-Ok-keep_file-clause-any_moment g c =
    let counts = g.met.H.Shelf.published_counts c.args.shelf.now in
    let found = c.in-Ok-length.found in
    let finds = stays_some _ _ (λ m. found ≡ option_map length (m.disk.published format_name)) c.in-Ok-length.ensures.found c.length.ensures.same in
    let settled = settled_stays _ _ counts c.in-Ok.ensures.ok _ c.length.ensures.same in
    goes_beside_none _ _ _ settled found finds (sym c.if-is_some.ensures) (goes_after _ _ counts settled _ (λ files image. image ≡ put files format_name format_bytes) c.keep_file.ensures.any_moment)

pub returns-in-Err-clause-refused : goal.returns-in-Err-clause-refused
returns-in-Err-clause-refused g c =
    let counts = g.met.H.Shelf.published_counts c.args.shelf.now in
    let found = c.in-Ok-length.found in
    let finds = stays_some _ _ (λ m. found ≡ option_map length (m.disk.published format_name)) c.in-Ok-length.ensures.found c.length.ensures.same in
    goes_fails _ _ _ (settled_stays _ _ counts c.in-Ok.ensures.ok _ c.length.ensures.same) found finds (sym c.if-is_some.ensures) c.in-Err.call c.in-Err.ensures.failed

pub returns-in-Err-clause-any_moment : goal.returns-in-Err-clause-any_moment
returns-in-Err-clause-any_moment g c =
    let counts = g.met.H.Shelf.published_counts c.args.shelf.now in
    let found = c.in-Ok-length.found in
    let finds = stays_some _ _ (λ m. found ≡ option_map length (m.disk.published format_name)) c.in-Ok-length.ensures.found c.length.ensures.same in
    let settled = settled_stays _ _ counts c.in-Ok.ensures.ok _ c.length.ensures.same in
    goes_beside_none _ _ _ settled found finds (sym c.if-is_some.ensures) (goes_after _ _ counts settled _ (λ files image. image ≡ put files format_name format_bytes) c.keep_file.ensures.any_moment)

use Rattle.std.proofs.Common.{rules, ◌≡◌, [], ◌∷◌, ◌++◌, ap, ◌∙◌}
use Rattle.edge_io.specs.Disk.{put}
use Rattle.edge_io.specs.Kept.{lookup}
use Rattle.edge_io.specs.declared.published_files.File.{File}
use Rattle.edge_io.proofs.KeptLemmas.{lookup-push}
use Rattle.edge_io.proofs.map_site.MapSite.put.Goals as goal

pub returns-clause-ok : goal.returns-clause-ok
returns-clause-ok c =
    let old = c.args.self.now.files.items in
    let file : File = record { name = c.into_string.result; bytes = c.into_vec.result } in
    let more : c.push.new.self.items ≡ old ++ file ∷ [] = search rules in
    ap lookup more
    ∙ lookup-push old file
    ∙ (λ i. put (lookup old) (c.into_string.ensures i) (c.into_vec.ensures i))

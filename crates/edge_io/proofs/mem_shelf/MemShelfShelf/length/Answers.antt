use Rattle.std.proofs.Common.{◌∙◌, ap, sym, length}
use Rattle.std.specs.Option.{option_map}
use Rattle.edge_io.specs.Kept.{lookup}
use Rattle.edge_io.proofs.KeptLemmas.{published_all}
use Rattle.edge_io.proofs.mem_shelf.MemShelfShelf.length.Goals as goal

pub returns-in-Some-clause-found : goal.returns-in-Some-clause-found
returns-in-Some-clause-found c =
    let s = c.args.self.now in
    ap (option_map length) (ap (option_map (λ bytes. bytes.now)) (sym c.in-Some.is)
    ∙ c.last_bytes_of.ensures
    ∙ ap (λ files. lookup files c.args.name.now) c.deref.ensures.value
    ∙ ap (λ files. files c.args.name.now) (sym (published_all s.files.items s.current s.settled_first s.one_pending s.all_published)))

pub returns-in-None-clause-found : goal.returns-in-None-clause-found
returns-in-None-clause-found c =
    let s = c.args.self.now in
    ap (option_map length) (ap (option_map (λ bytes. bytes.now)) (sym c.in-None.is)
    ∙ c.last_bytes_of.ensures
    ∙ ap (λ files. lookup files c.args.name.now) c.deref.ensures.value
    ∙ ap (λ files. files c.args.name.now) (sym (published_all s.files.items s.current s.settled_first s.one_pending s.all_published)))

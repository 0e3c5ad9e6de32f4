use Rattle.std.proofs.Common.{◌∙◌, ap, sym, subst, IfSome, List, ℕ}
use Rattle.std.specs.Option.{option_map}
use Rattle.edge_io.specs.Kept.{lookup}
use Rattle.edge_io.specs.Steps.{IsPart}
use Rattle.edge_io.proofs.KeptLemmas.{published_all}
use Rattle.edge_io.proofs.mem_shelf.MemShelfShelf.read_at.Goals as goal

pub returns-in-Some-clause-part : goal.returns-in-Some-clause-part
returns-in-Some-clause-part c =
    let s = c.args.self.now in
    let is = ap (option_map (λ bytes. bytes.now)) (sym c.in-Some.is)
    ∙ c.last_bytes_of.ensures
    ∙ ap (λ files. lookup files c.args.name.now) c.deref.ensures.value
    ∙ ap (λ files. files c.args.name.now) (sym (published_all s.files.items s.current s.settled_first s.one_pending s.all_published)) in
    subst (λ found. IfSome found (λ (bytes : List ℕ). IsPart bytes c.args.place c.copy_part.new.buf c.copy_part.result)) is c.copy_part.ensures

pub returns-in-None-clause-part : goal.returns-in-None-clause-part
returns-in-None-clause-part c =
    let s = c.args.self.now in
    let is = ap (option_map (λ bytes. bytes.now)) (sym c.in-None.is)
    ∙ c.last_bytes_of.ensures
    ∙ ap (λ files. lookup files c.args.name.now) c.deref.ensures.value
    ∙ ap (λ files. files c.args.name.now) (sym (published_all s.files.items s.current s.settled_first s.one_pending s.all_published)) in
    subst (λ found. IfSome found (λ (bytes : List ℕ). IsPart bytes c.args.place c.args.buf.now 0)) is tt

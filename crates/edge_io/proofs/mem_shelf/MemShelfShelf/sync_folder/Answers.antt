use Rattle.edge_io.proofs.KeptLemmas.{sync_step, remembers}
use Rattle.edge_io.proofs.mem_shelf.MemShelfShelf.sync_folder.Goals as goal

pub returns-clause-ok : goal.returns-clause-ok
returns-clause-ok c =
    let s = c.args.self.now in
    sync_step s.files.items s.current s.past.items c.push.new.self.items _ c.count_call.new.self.calls s.settled_first s.one_pending s.all_published c.in-Ok.ensures.items

pub returns-clause-moments : goal.returns-clause-moments
returns-clause-moments c =
    let s = c.args.self.now in
    λ moment before. remembers s.files.items s.past.items c.push.new.self.items s.current _ moment c.in-Ok.ensures.items before

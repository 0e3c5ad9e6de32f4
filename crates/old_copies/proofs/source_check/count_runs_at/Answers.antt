use Rattle.std.proofs.Common.{sym, subst, IfSome}
use Rattle.edge_io.specs.MemState.{folder_of}
use Rattle.old_copies.specs.Copying.{folder_in}
use Rattle.old_copies.specs.Looking.{CopyLookFails}
use Rattle.old_copies.specs.declared.faults.OldCopyFault.{OldCopyFault}
use Rattle.old_copies.proofs.KeptLemmas.{looks, looks_fail}
use Rattle.old_copies.proofs.source_check.count_runs_at.Goals as goal

pub returns-in-Ok-survey_old-clause-found : goal.returns-in-Ok-survey_old-clause-found
returns-in-Ok-survey_old-clause-found g c =
    looks c.args.from.now (g.F.Site.seen c.args.site.now).told (g.F.Site.seen c.take_up.new.site).told c.in-Ok.ensures.same (folder_of c.new-kept.result) (folder_of c.take_up.new.kept) (folder_of c.take_up-2.new.kept) c.new-kept.ensures.empty
    c.in-Ok.ensures.taken c.in-Ok-take_up.ensures.taken c.in-Ok-survey_old.count c.in-Ok-survey_old.ensures.found.is

pub returns-clause-refused : goal.returns-clause-refused
returns-clause-refused g c =
    subst (λ (f : OldCopyFault). IfSome (g.F.Site.seen c.args.site.now).told (λ files. CopyLookFails (folder_in c.args.from.now files) f)) (sym c.fault_of_look.ensures)
    (looks_fail c.args.from.now (g.F.Site.seen c.args.site.now).told (g.F.Site.seen c.take_up.new.site).told c.in-Ok.ensures.same (folder_of c.new-kept.result) (folder_of c.take_up.new.kept) (folder_of c.take_up-2.new.kept) c.new-kept.ensures.empty
    c.in-Ok.ensures.taken c.in-Ok-take_up.ensures.taken c.in-Err-survey_old.fault (folder_of c.survey_old.new.shelf) c.in-Err-survey_old.ensures.refused)

use Rattle.std.proofs.Common.{◌≡◌, sym, subst, Option, ℕ, IfSome}
use Rattle.old_folder.specs.Looking.{IsShortRead}
use Rattle.old_folder.specs.Olds.{next_name, next_of}
use Rattle.old_folder.specs.declared.short_file.Short.{Short}
use Rattle.old_folder.proofs.LayoutLemmas.{next_whole}
use Rattle.old_folder.proofs.folder_survey.read_next.Goals as goal

pub returns-in-Ok-Whole-clause-found : goal.returns-in-Ok-Whole-clause-found
returns-in-Ok-Whole-clause-found g c =
    let state = (g.H.Shelf.seen c.args.shelf.now).told in
    let buf = c.read_short.new.buf in
    let found = subst (λ (w : Short). IfSome state (λ s. IsShortRead (s.disk.published next_name) buf w)) c.in-Ok-Whole.field-0-is c.in-Ok-Whole.ensures.found in
    subst (λ (o : Option ℕ). IfSome state (λ s. o ≡ next_of s.disk.published)) (sym c.read_count.ensures) (next_whole buf state c.in-Ok-Whole.count found)

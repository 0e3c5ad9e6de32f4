use Rattle.std.proofs.Common.{◌∙◌, sym, subst, IfSome}
use Rattle.run_shelf.specs.Repository.{format_name}
use Rattle.old_folder.specs.Looking.{IsShortRead}
use Rattle.old_folder.specs.declared.short_file.Short.{Short}
use Rattle.old_folder.proofs.LayoutLemmas.{known_old, goes_ours, goes_strange}
use Rattle.old_folder.proofs.folder_survey.check_layout.Goals as goal

pub returns-in-Old-clause-right : goal.returns-in-Old-clause-right
returns-in-Old-clause-right g c =
    let state = (g.H.Shelf.seen c.args.shelf.now).told in
    let buf = c.read_short.new.buf in
    let found = subst (λ (w : Short). IfSome state (λ s. IsShortRead (s.disk.published format_name) buf w)) c.in-Ok-Whole.field-0-is c.in-Ok-Whole.ensures.found in
    known_old state _ c.in-Ok-Whole.ensures.same buf c.in-Ok-Whole.count found (sym c.layout_of.ensures ∙ c.in-Old.is)

pub returns-in-Ours-clause-refused : goal.returns-in-Ours-clause-refused
returns-in-Ours-clause-refused g c =
    let state = (g.H.Shelf.seen c.args.shelf.now).told in
    let buf = c.read_short.new.buf in
    let found = subst (λ (w : Short). IfSome state (λ s. IsShortRead (s.disk.published format_name) buf w)) c.in-Ok-Whole.field-0-is c.in-Ok-Whole.ensures.found in
    goes_ours state _ c.in-Ok-Whole.ensures.same buf c.in-Ok-Whole.count found (sym c.layout_of.ensures ∙ c.in-Ours.is)

pub returns-in-Other-clause-refused : goal.returns-in-Other-clause-refused
returns-in-Other-clause-refused g c =
    let state = (g.H.Shelf.seen c.args.shelf.now).told in
    let buf = c.read_short.new.buf in
    let found = subst (λ (w : Short). IfSome state (λ s. IsShortRead (s.disk.published format_name) buf w)) c.in-Ok-Whole.field-0-is c.in-Ok-Whole.ensures.found in
    goes_strange state _ c.in-Ok-Whole.ensures.same buf c.in-Ok-Whole.count found (sym c.layout_of.ensures ∙ c.in-Other.is)

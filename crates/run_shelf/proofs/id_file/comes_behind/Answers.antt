use Rattle.std.proofs.Common.{◌∙◌, sym, ap, refl, List, ℕ}
use Rattle.std.specs.Ordering.{is_lt, nat_cmp}
use Rattle.std.specs.Cmp.Lexicographic.{slice_cmp}
use Rattle.run_shelf.proofs.IdOrderLemmas.{behind_last, behind_none}
use Rattle.run_shelf.proofs.id_file.comes_behind.Goals as goal

pub returns-in-Some : goal.returns-in-Some
returns-in-Some c =
    behind_last c.args.ids.now c.args.id.now c.in-Some.last.now c.is_lt.result c.requires (sym c.in-Some.ensures.value)
    (c.is_lt.ensures ∙ ap is_lt (c.cmp.ensures ∙ ap (λ (l : List ℕ). slice_cmp nat_cmp l c.args.id.now) c.bytes.ensures.bytes))

pub returns-in-None : goal.returns-in-None
returns-in-None c = ((λ yes. behind_none c.args.ids.now c.args.id.now (sym c.in-None.ensures.value)), (λ all. refl))

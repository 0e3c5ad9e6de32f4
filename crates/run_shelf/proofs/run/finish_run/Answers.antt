use Rattle.std.proofs.Common.{◌≡◌, ◌∙◌, ap, sym, subst, List, Bool, length}
use Rattle.run_shelf.specs.Holds.{kinds_of, FitsWhereTold}
use Rattle.run_shelf.specs.Repository.{run_name}
use Rattle.run_shelf.proofs.RunLemmas.{draft_keeps, draft_fits, draft_passes}
use Rattle.run_shelf.proofs.run.finish_run.Goals as goal

pub returns-in_err-place_draft-clause-any_moment : goal.returns-in_err-place_draft-clause-any_moment
returns-in_err-place_draft-clause-any_moment g c =
    let kinds = kinds_of c.args.found.now in
    let name : c.as_str.result.now ≡ run_name (length kinds) c.args.partial = c.as_str.ensures.value ∙ c.run_name-name.ensures ∙ ap (λ n. run_name n c.args.partial) c.runs-number.ensures in
    draft_passes kinds c.requires.few c.args.partial c.as_str.result.now name _ _ c.requires.fits c.place_draft.ensures.any_moment

pub returns-clause-kept : goal.returns-clause-kept
returns-clause-kept g c =
    let kinds = kinds_of c.args.found.now in
    let name : c.as_str.result.now ≡ run_name (length kinds) c.args.partial = c.as_str.ensures.value ∙ c.run_name-name.ensures ∙ ap (λ n. run_name n c.args.partial) c.runs-number.ensures in
    draft_keeps kinds c.requires.few c.args.partial c.as_str.result.now name _ _ c.requires.fits c.in_ok-place_draft.ensures.kept

pub returns-clause-fits : goal.returns-clause-fits
returns-clause-fits g c =
    let kinds = kinds_of c.args.found.now in
    let name : c.as_str.result.now ≡ run_name (length kinds) c.args.partial = c.as_str.ensures.value ∙ c.run_name-name.ensures ∙ ap (λ n. run_name n c.args.partial) c.runs-number.ensures in
    subst (λ (l : List Bool). FitsWhereTold l (g.H.Shelf.seen c.place_draft.new.shelf).told) (sym c.add.ensures)
    (draft_fits kinds c.requires.few c.args.partial c.as_str.result.now name _ _ c.requires.fits c.in_ok-place_draft.ensures.kept)

pub returns-clause-any_moment : goal.returns-clause-any_moment
returns-clause-any_moment g c =
    let kinds = kinds_of c.args.found.now in
    let name : c.as_str.result.now ≡ run_name (length kinds) c.args.partial = c.as_str.ensures.value ∙ c.run_name-name.ensures ∙ ap (λ n. run_name n c.args.partial) c.runs-number.ensures in
    draft_passes kinds c.requires.few c.args.partial c.as_str.result.now name _ _ c.requires.fits c.place_draft.ensures.any_moment

use Rattle.run_shelf.proofs.Joining.{goes_old, settled_stays}
use Rattle.old_folder.proofs.folder_survey.survey_old.Goals as goal

pub returns-clause-any_moment : goal.returns-clause-any_moment
returns-clause-any_moment g c =
    let counts = g.met.H.Shelf.published_counts c.args.shelf.now in
    goes_old _ _ counts (settled_stays _ _ counts c.in-Ok.ensures.ok _ c.look.ensures.same)

use Rattle.edge_io.specs.Steps.{Settled, Stays}
use Rattle.edge_io.proofs.Going.{goes_either}
use Rattle.run_shelf.proofs.DraftLemmas.{goes_drafts}
use Rattle.run_shelf.proofs.KeepSteps.{sync_fails, sync_passes, publish_fails, publish_passes, placed_passes}
use Rattle.old_copies.proofs.file.place_draft.Goals as goal

pub returns-in_default-clause-failed : goal.returns-in_default-clause-failed
returns-in_default-clause-failed g c = sync_fails c.args.name.now _ _ c.requires.draft c.in_default.ensures.err

pub returns-in_default-clause-any_moment : goal.returns-in_default-clause-any_moment
returns-in_default-clause-any_moment g c = sync_passes c.args.name.now _ _ c.requires.draft c.in_default.ensures.err

pub returns-in_default-publish-clause-failed : goal.returns-in_default-publish-clause-failed
returns-in_default-publish-clause-failed g c =
    publish_fails c.args.name.now _ _ _ c.requires.rest (goes_drafts _ _ c.requires.draft c.in-Ok.ensures.ok) c.in_default-publish.ensures.err

pub returns-in_default-publish-clause-any_moment : goal.returns-in_default-publish-clause-any_moment
returns-in_default-publish-clause-any_moment g c =
    publish_passes c.args.name.now _ _ _ c.requires.rest (goes_drafts _ _ c.requires.draft c.in-Ok.ensures.ok) c.in_default-publish.ensures.err

pub returns-in_default-sync_folder-clause-any_moment : goal.returns-in_default-sync_folder-clause-any_moment
returns-in_default-sync_folder-clause-any_moment g c =
    placed_passes c.args.name.now _ _ _ c.requires.rest (goes_drafts _ _ c.requires.draft c.in-Ok.ensures.ok) _ c.in-Ok-publish.ensures.ok
    (goes_either c.sync_folder.result _ _ Settled Stays c.sync_folder.ensures.ok c.sync_folder.ensures.err)

pub returns-clause-any_moment : goal.returns-clause-any_moment
returns-clause-any_moment g c =
    placed_passes c.args.name.now _ _ _ c.requires.rest (goes_drafts _ _ c.requires.draft c.in-Ok.ensures.ok) _ c.in-Ok-publish.ensures.ok
    (goes_either c.sync_folder.result _ _ Settled Stays c.sync_folder.ensures.ok c.sync_folder.ensures.err)

use Rattle.std.proofs.Common.{◌∙◌, sym, ap, subst, Bool, ℕ, Err}
use Rattle.edge_io.specs.Causes.{RisesExactlyIf}
use Rattle.edge_io.specs.Steps.{Goes}
use Rattle.old_upgrade.specs.Upgrading.{UpgradeFails, upgrade_failed}
use Rattle.old_upgrade.specs.declared.faults.UpgradeFault.{UpgradeFault}
use Rattle.old_upgrade.proofs.WholeLemmas.{goes_look_fails, goes_old_passes, look_failed, some_found, goes_upgrades_then, goes_fails_then, goes_passes_then}
use Rattle.old_upgrade.proofs.whole_upgrade.upgrade.Goals as goal

pub returns-in-Err-clause-refused : goal.returns-in-Err-clause-refused
returns-in-Err-clause-refused g c =
    subst (λ (f : UpgradeFault). Goes (g.H.Shelf.seen c.args.shelf.now).told (g.H.Shelf.seen c.survey_old.new.shelf).told (UpgradeFails f)) (sym c.look_fault.ensures)
    (goes_look_fails c.in-Err.fault _ _ c.in-Err.ensures.refused)

pub returns-in-Err-clause-any_moment : goal.returns-in-Err-clause-any_moment
returns-in-Err-clause-any_moment g c = goes_old_passes _ _ c.survey_old.ensures.any_moment

pub convert_found-requires-clause-found : goal.convert_found-requires-clause-found
convert_found-requires-clause-found g c = some_found c.in-Ok.count _ _ (g.met.H.Shelf.published_counts c.args.shelf.now) c.in-Ok.ensures.found

pub returns-in-Ok-convert_found-clause-upgraded : goal.returns-in-Ok-convert_found-clause-upgraded
returns-in-Ok-convert_found-clause-upgraded g c =
    goes_upgrades_then c.in-Ok.count _ _ (g.met.H.Shelf.published_counts c.args.shelf.now) c.in-Ok.ensures.found _ c.in-Ok-convert_found.ensures.upgraded

pub returns-in-Ok-convert_found-clause-any_moment : goal.returns-in-Ok-convert_found-clause-any_moment
returns-in-Ok-convert_found-clause-any_moment g c =
    goes_passes_then c.in-Ok.count _ _ (g.met.H.Shelf.published_counts c.args.shelf.now) c.in-Ok.ensures.found _ c.convert_found.ensures.any_moment

pub returns-in-Err-clause-cause : goal.returns-in-Err-clause-cause
returns-in-Err-clause-cause g c =
    subst (λ (b : Bool). RisesExactlyIf (g.H.Shelf.seen c.args.shelf.now).faults (g.H.Shelf.seen c.survey_old.new.shelf).faults b)
    (sym (ap (λ (f : UpgradeFault). upgrade_failed {T = ℕ} (Err f)) c.look_fault.ensures ∙ look_failed c.in-Err.fault)) c.in-Err.ensures.cause

pub returns-in-Err-convert_found-clause-refused : goal.returns-in-Err-convert_found-clause-refused
returns-in-Err-convert_found-clause-refused g c =
    goes_fails_then c.in-Ok.count _ _ (g.met.H.Shelf.published_counts c.args.shelf.now) c.in-Ok.ensures.found _ c.in-Err-convert_found.fault c.in-Err-convert_found.ensures.refused

pub returns-in-Err-convert_found-clause-any_moment : goal.returns-in-Err-convert_found-clause-any_moment
returns-in-Err-convert_found-clause-any_moment g c =
    goes_passes_then c.in-Ok.count _ _ (g.met.H.Shelf.published_counts c.args.shelf.now) c.in-Ok.ensures.found _ c.convert_found.ensures.any_moment

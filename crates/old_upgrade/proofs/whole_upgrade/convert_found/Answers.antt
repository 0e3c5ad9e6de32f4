use Rattle.std.proofs.Common.{◌∙◌, ap, Option, IfSome}
use Rattle.edge_io.specs.Disk.{Folder}
use Rattle.edge_io.specs.Steps.{Goes}
use Rattle.run_shelf.specs.Bases.{base_in}
use Rattle.old_upgrade.specs.Recording.{HasConvertedTo, FailingFails, FailedLast}
use Rattle.old_upgrade.proofs.WholeLemmas.{goes_all_found_fails, goes_new_passes, goes_stays, goes_converted_passes, some_ready, goes_failing_fails, goes_upgrades, goes_adopt_fails, goes_adopt_passes, moved_on, ready_by}
use Rattle.old_upgrade.proofs.whole_upgrade.convert_found.Goals as goal

pub returns-in-Err-clause-refused : goal.returns-in-Err-clause-refused
returns-in-Err-clause-refused g c = goes_all_found_fails c.args.count _ c.requires.found c.in-Err.fault _ c.in-Err.ensures.refused

pub returns-in-Err-clause-any_moment : goal.returns-in-Err-clause-any_moment
returns-in-Err-clause-any_moment g c = goes_new_passes c.args.count _ c.requires.found _ c.convert_runs.ensures.any_moment

pub returns-in-Err-failing_ids-clause-refused : goal.returns-in-Err-failing_ids-clause-refused
returns-in-Err-failing_ids-clause-refused g c =
    let first = (g.H.Shelf.seen c.args.shelf.now).told in
    let same = c.failing_ids.ensures.same in
    let has = moved_on _ _ (λ (o : Option Folder). Goes first o (HasConvertedTo c.args.count)) same c.in-Ok.ensures.converted in
    goes_failing_fails c.args.count first c.requires.found _ has c.in-Err-failing_ids.fault
    (moved_on _ _ (λ (o : Option Folder). IfSome o (FailingFails c.in-Err-failing_ids.fault)) same c.in-Err-failing_ids.ensures.refused)

pub returns-in-Err-failing_ids-clause-any_moment : goal.returns-in-Err-failing_ids-clause-any_moment
returns-in-Err-failing_ids-clause-any_moment g c =
    let first = (g.H.Shelf.seen c.args.shelf.now).told in
    goes_converted_passes c.args.count first c.requires.found _ (moved_on _ _ (λ (o : Option Folder). Goes first o (HasConvertedTo c.args.count)) c.failing_ids.ensures.same c.in-Ok.ensures.converted)

pub returns-in_default-clause-refused : goal.returns-in_default-clause-refused
returns-in_default-clause-refused g c =
    let first = (g.H.Shelf.seen c.args.shelf.now).told in
    goes_stays c.args.count first c.requires.found _ (moved_on _ _ (λ (o : Option Folder). Goes first o (HasConvertedTo c.args.count)) c.failing_ids.ensures.same c.in-Ok.ensures.converted)

pub returns-in_default-clause-any_moment : goal.returns-in_default-clause-any_moment
returns-in_default-clause-any_moment g c =
    let first = (g.H.Shelf.seen c.args.shelf.now).told in
    goes_converted_passes c.args.count first c.requires.found _ (moved_on _ _ (λ (o : Option Folder). Goes first o (HasConvertedTo c.args.count)) c.failing_ids.ensures.same c.in-Ok.ensures.converted)

pub adopt-requires-clause-ready : goal.adopt-requires-clause-ready
adopt-requires-clause-ready g c =
    let first = (g.H.Shelf.seen c.args.shelf.now).told in
    let same = c.failing_ids.ensures.same in
    let has = moved_on _ _ (λ (o : Option Folder). Goes first o (HasConvertedTo c.args.count)) same c.in-Ok.ensures.converted in
    let tells = ap base_in c.bytes.ensures ∙ c.in-Ok-base_bytes.ensures.is in
    ready_by _ c.args.count c.bytes.result.now c.in-Ok-failing_ids.ids tells (some_ready c.args.count first c.requires.found _ has)

pub returns-in-Ok-adopt-clause-upgraded : goal.returns-in-Ok-adopt-clause-upgraded
returns-in-Ok-adopt-clause-upgraded g c =
    let first = (g.H.Shelf.seen c.args.shelf.now).told in
    let same = c.failing_ids.ensures.same in
    let has = moved_on _ _ (λ (o : Option Folder). Goes first o (HasConvertedTo c.args.count)) same c.in-Ok.ensures.converted in
    let tells = ap base_in c.bytes.ensures ∙ c.in-Ok-base_bytes.ensures.is in
    let last = moved_on _ _ (λ (o : Option Folder). IfSome o (FailedLast c.in-Ok-failing_ids.ids)) same c.in-Ok-failing_ids.ensures.ids in
    goes_upgrades c.args.count first c.requires.found _ has c.bytes.result.now c.in-Ok-failing_ids.ids tells last _ c.in-Ok-adopt.ensures.adopted

pub returns-in-Ok-adopt-clause-any_moment : goal.returns-in-Ok-adopt-clause-any_moment
returns-in-Ok-adopt-clause-any_moment g c =
    let first = (g.H.Shelf.seen c.args.shelf.now).told in
    let same = c.failing_ids.ensures.same in
    let has = moved_on _ _ (λ (o : Option Folder). Goes first o (HasConvertedTo c.args.count)) same c.in-Ok.ensures.converted in
    let tells = ap base_in c.bytes.ensures ∙ c.in-Ok-base_bytes.ensures.is in
    let last = moved_on _ _ (λ (o : Option Folder). IfSome o (FailedLast c.in-Ok-failing_ids.ids)) same c.in-Ok-failing_ids.ensures.ids in
    goes_adopt_passes c.args.count first c.requires.found _ has c.bytes.result.now c.in-Ok-failing_ids.ids tells last _ c.adopt.ensures.any_moment

pub returns-clause-refused : goal.returns-clause-refused
returns-clause-refused g c =
    let first = (g.H.Shelf.seen c.args.shelf.now).told in
    let same = c.failing_ids.ensures.same in
    let has = moved_on _ _ (λ (o : Option Folder). Goes first o (HasConvertedTo c.args.count)) same c.in-Ok.ensures.converted in
    let tells = ap base_in c.bytes.ensures ∙ c.in-Ok-base_bytes.ensures.is in
    let last = moved_on _ _ (λ (o : Option Folder). IfSome o (FailedLast c.in-Ok-failing_ids.ids)) same c.in-Ok-failing_ids.ensures.ids in
    goes_adopt_fails c.args.count first c.requires.found _ has c.bytes.result.now c.in-Ok-failing_ids.ids tells last _ c.in-Err-adopt.call c.in-Err-adopt.ensures.failed

pub returns-clause-any_moment : goal.returns-clause-any_moment
returns-clause-any_moment g c =
    let first = (g.H.Shelf.seen c.args.shelf.now).told in
    let same = c.failing_ids.ensures.same in
    let has = moved_on _ _ (λ (o : Option Folder). Goes first o (HasConvertedTo c.args.count)) same c.in-Ok.ensures.converted in
    let tells = ap base_in c.bytes.ensures ∙ c.in-Ok-base_bytes.ensures.is in
    let last = moved_on _ _ (λ (o : Option Folder). IfSome o (FailedLast c.in-Ok-failing_ids.ids)) same c.in-Ok-failing_ids.ensures.ids in
    goes_adopt_passes c.args.count first c.requires.found _ has c.bytes.result.now c.in-Ok-failing_ids.ids tells last _ c.adopt.ensures.any_moment

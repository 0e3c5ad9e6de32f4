use Rattle.std.proofs.lemmas.Result.{on_ok_weaker, IfErr-weaker}
use Rattle.edge_io.specs.Steps.{Goes}
use Rattle.run_shelf.specs.Adoption.{AdoptFails}
use Rattle.run_shelf.specs.Outcomes.{KeepFails}
use Rattle.run_shelf.specs.Repository.{format_name, based_format_bytes}
use Rattle.run_shelf.proofs.AdoptLemmas.{goes_adopts, goes_fails_then, goes_passes_then, ticks_then}
use Rattle.run_shelf.proofs.adoption.adopt.Goals as goal

pub returns-clause-adopted : goal.returns-clause-adopted
returns-clause-adopted g c =
    on_ok_weaker c.keep_file-2.result (goes_adopts c.args.base.now _ _ _ c.requires.base c.requires.ready c.in_ok-keep_file.ensures.kept) c.keep_file-2.ensures.kept

pub returns-clause-failed : goal.returns-clause-failed
returns-clause-failed g c =
    let before = (g.H.Shelf.seen c.args.shelf.now).told in
    let between = (g.H.Shelf.seen c.keep_file.new.shelf).told in
    let after = (g.H.Shelf.seen c.keep_file-2.new.shelf).told in
    IfErr-weaker c.keep_file-2.result (λ call. Goes between after (KeepFails format_name based_format_bytes call)) (λ call. Goes before after (AdoptFails c.args.base.now call))
    (λ call fails. goes_fails_then c.args.base.now before between after c.requires.base c.requires.ready c.in_ok-keep_file.ensures.kept call fails) c.keep_file-2.ensures.failed

pub returns-clause-any_moment : goal.returns-clause-any_moment
returns-clause-any_moment g c =
    goes_passes_then c.args.base.now _ _ _ c.requires.base c.requires.ready c.in_ok-keep_file.ensures.kept c.keep_file.ensures.any_moment c.keep_file-2.ensures.any_moment

pub returns-clause-time : goal.returns-clause-time
returns-clause-time g c =
    ticks_then c.args.base.now _ _ _ c.requires.base c.requires.ready c.in_ok-keep_file.ensures.kept c.keep_file-2.result _ _ _ c.in_ok-keep_file.ensures.time c.keep_file-2.ensures.time c.keep_file-2.ensures.failed

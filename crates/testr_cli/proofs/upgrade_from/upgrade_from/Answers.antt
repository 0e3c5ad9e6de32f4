use Rattle.std.proofs.Common.{inl, inr, refl, subst, List, ℕ}
use Rattle.command_steps.specs.Outside.{outside}
use Rattle.testr_commands.specs.Elsewhere.{TestrPromises}
use Rattle.testr_cli.proofs.CopyLemmas.{copy_complete}
use Rattle.testr_cli.proofs.FromLemmas.{told_fault}
use Rattle.testr_cli.proofs.upgrade_from.upgrade_from.Goals as goal

pub returns-in-Ok : goal.returns-in-Ok
returns-in-Ok g c =
    let ready = outside (g.H.Shelf.seen c.copy_old.new.shelf) (g.F.Site.seen c.copy_old.new.site) (g.S.Spawner.seen c.args.spawner.now) (g.I.Source.seen c.args.input.now) (g.O.Sink.seen c.args.out.now) (g.E.Sink.seen c.args.err.now) in
    let after = outside (g.H.Shelf.seen c.testr_as.new.shelf) (g.F.Site.seen c.testr_as.new.site) (g.S.Spawner.seen c.testr_as.new.spawner) (g.I.Source.seen c.testr_as.new.input) (g.O.Sink.seen c.testr_as.new.out) (g.E.Sink.seen c.testr_as.new.err) in
    let path = g.F.Site.folder c.copy_old.new.site in
    inl (record {
      ready = ready;
      copied = c.in-Ok.ensures;
      rest = refl;
      path = path;
      upgraded = subst (λ (l : List (List ℕ)). TestrPromises path c.args.face l ready after c.testr_as.result) c.requires.word c.testr_as.ensures.promises;
    })

pub returns-in-Err : goal.returns-in-Err
returns-in-Err g c = inr (record {
  fault = c.in-Err.fault;
  copied = c.in-Err.ensures;
  rest = refl;
  told = told_fault c.args.from.now c.in-Err.fault (g.E.Sink.seen c.args.err.now) (g.E.Sink.seen c.tell_fault.new.err) c.tell_fault.result c.tell_fault.ensures.prefix c.tell_fault.ensures.whole c.tell_fault.ensures.cause;
  code = c.code_of.ensures;
  completeness = copy_complete c.args.from.now (g.H.Shelf.seen c.args.shelf.now) (g.H.Shelf.seen c.copy_old.new.shelf) (g.F.Site.seen c.args.site.now) (g.F.Site.seen c.copy_old.new.site) c.in-Err.fault _ c.in-Err.ensures c.code_of.ensures;
})

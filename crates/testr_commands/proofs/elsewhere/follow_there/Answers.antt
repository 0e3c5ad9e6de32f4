use Rattle.std.proofs.Common.{rules, inl, inr, refl}
use Rattle.command_steps.specs.Outside.{outside}
use Rattle.testr_commands.proofs.CallLemmas.{none_made, told_refused}
use Rattle.testr_commands.proofs.ElsewhereLemmas.{counted_at, spares_at}
use Rattle.testr_commands.proofs.elsewhere.follow_there.Goals as goal

pub follow_counted-requires : goal.follow_counted-requires
follow_counted-requires g c = (search rules, (search rules, c.requires.asks.project))

pub returns-in-Ok : goal.returns-in-Ok
returns-in-Ok g c =
    let path = g.F.Site.folder c.count_for.new.site in
    let f = g.F.Site.folder c.args.site.now in
    record {
      promises = inr (record {
        settings = c.args.conf;
        asks = c.requires.asks;
        workers = c.in-Ok.workers;
        counted = outside (g.H.Shelf.seen c.args.shelf.now) (g.F.Site.seen c.count_for.new.site) (g.S.Spawner.seen c.count_for.new.spawner) (g.I.Source.seen c.args.input.now) (g.O.Sink.seen c.args.out.now) (g.E.Sink.seen c.args.err.now);
        counts = c.in-Ok.ensures.step _ _ _;
        still = refl;
        goes = counted_at path f c.args.command c.args.conf c.in-Ok.workers _ _ _ c.in-Ok.ensures.path c.follow_counted.ensures.promises;
      });
      spares_run = spares_at path f c.args.command _ _ _ _ _ c.in-Ok.ensures.path c.follow_counted.ensures.spares_run;
    }

pub returns-in-Err : goal.returns-in-Err
returns-in-Err g c = record {
  promises = inl (record {
    settings = c.args.conf;
    asks = c.requires.asks;
    refusal = c.in-Err.refusal;
    counts = c.in-Err.ensures.step _ _ _;
    told = c.answer.ensures;
  });
  spares_run = λ whole. none_made _ _ _ _ _ _ (told_refused c.in-Err.refusal _ c.answer.ensures.code) refl;
}

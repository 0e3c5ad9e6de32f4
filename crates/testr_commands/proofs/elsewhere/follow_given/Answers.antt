use Rattle.std.proofs.Common.{refl}
use Rattle.command_steps.specs.Outside.{outside}
use Rattle.testr_words.specs.Suites.{on_these}
use Rattle.testr_commands.specs.Elsewhere.{plain}
use Rattle.testr_commands.proofs.ElsewhereLemmas.{command_there, promises_there, there_spares}
use Rattle.testr_commands.proofs.elsewhere.follow_given.Goals as goal

pub returns : goal.returns
returns g c =
    let f = g.F.Site.folder c.args.site.now in
    let instances = c.args.given.conf.instances in
    let is = command_there c.args.given.workers _ instances c.args.command _ _ c.on_instances-command.ensures c.into_instances.ensures c.plain.ensures in
    record {
      promises = record {
        ended = outside (g.H.Shelf.seen c.follow-status.new.shelf) (g.F.Site.seen c.follow-status.new.site) (g.S.Spawner.seen c.follow-status.new.spawner) (g.I.Source.seen c.follow-status.new.input) (g.O.Sink.seen c.follow-status.new.out) (g.E.Sink.seen c.follow-status.new.err);
        rest = promises_there f _ (on_these c.args.given.workers instances (plain c.args.command)) _ _ _ is c.follow-status.ensures.promises;
        disposes = c.dispose.ensures.step;
        same = refl;
      };
      spares_run = there_spares c.args.given.workers instances f c.args.command _ is c.requires.project _ _ _ _ _ c.follow-status.ensures.spares_run;
    }

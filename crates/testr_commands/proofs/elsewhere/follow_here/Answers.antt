use Rattle.testr_commands.proofs.ElsewhereLemmas.{here_plain, plain_spares}
use Rattle.testr_commands.proofs.elsewhere.follow_here.Goals as goal

pub returns : goal.returns
returns g c =
    let f = g.F.Site.folder c.args.site.now in
    record {
      promises = here_plain f c.args.command _ c.plain-command.ensures c.requires.project _ _ _ c.follow.ensures.promises;
      spares_run = plain_spares f c.args.command _ c.plain-command.ensures c.requires.project _ _ _ _ _ c.follow.ensures.spares_run;
    }

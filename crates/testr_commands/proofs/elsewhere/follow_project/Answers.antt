use Rattle.std.proofs.Common.{sym, ◌∙◌}
use Rattle.testr_commands.proofs.ElsewhereLemmas.{unwarned_anywhere, warned_anywhere}
use Rattle.testr_commands.proofs.WholeLemmas.{told_most}
use Rattle.testr_commands.proofs.elsewhere.follow_project.Goals as goal

pub returns-then-not-warns : goal.returns-then-not-warns
returns-then-not-warns g c =
    let f = g.F.Site.folder c.args.site.now in
    record {
      promises = unwarned_anywhere f c.args.command c.requires.project _ _ _ (sym (c.warns.ensures f) ∙ c.if-not-warns.true) c.follow_told.ensures.promises;
      spares_run = c.follow_told.ensures.spares_run;
    }

pub returns : goal.returns
returns g c =
    let f = g.F.Site.folder c.args.site.now in
    record {
      promises = warned_anywhere f c.args.command c.requires.project _ _ _ (sym (c.warns.ensures f) ∙ c.if-not-warns.false) _ (told_most _ _ _ c.tell_most_workers.ensures.prefix c.tell_most_workers.ensures.whole c.tell_most_workers.ensures.cause) c.follow_told-2.ensures.promises;
      spares_run = c.follow_told-2.ensures.spares_run;
    }

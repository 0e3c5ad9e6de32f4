use Rattle.std.proofs.Common.{sym, ◌∙◌}
use Rattle.testr_commands.proofs.WholeLemmas.{told_most, not_warned, warned}
use Rattle.testr_commands.proofs.testr_call.follow.Goals as goal

pub returns-then-not-warns : goal.returns-then-not-warns
returns-then-not-warns g c = record {
  promises = not_warned _ _ _ _ _ _ _ _ _ _ (sym (c.warns.ensures (g.F.Site.folder c.args.site.now)) ∙ c.if-not-warns.true) c.follow_expecting.ensures.promises;
  spares = c.follow_expecting.ensures.spares;
  spares_run = c.follow_expecting.ensures.spares_run;
}

pub returns : goal.returns
returns g c = record {
  promises = warned _ _ _ _ _ _ _ _ _ _ (sym (c.warns.ensures (g.F.Site.folder c.args.site.now)) ∙ c.if-not-warns.false) _ (told_most _ _ _ c.tell_most_workers.ensures.prefix c.tell_most_workers.ensures.whole c.tell_most_workers.ensures.cause) c.follow_expecting-2.ensures.promises;
  spares = c.follow_expecting-2.ensures.spares;
  spares_run = c.follow_expecting-2.ensures.spares_run;
}

use Rattle.std.proofs.Common.{rules, inl}
use Rattle.testr_commands.proofs.ElsewhereLemmas.{has_project, no_project, project_spare}
use Rattle.testr_commands.proofs.elsewhere.follow_anywhere.Goals as goal

pub follow_project-requires : goal.follow_project-requires
follow_project-requires g c = (search rules, (search rules, has_project _ _ c.in-Run.is tt))

pub returns-in-Run : goal.returns-in-Run
returns-in-Run g c = record {
  promises = c.follow_project.ensures.promises;
  spares = project_spare (g.F.Site.folder c.args.site.now) c.args.command _ _ _ (has_project _ _ c.in-Run.is tt);
  spares_run = c.follow_project.ensures.spares_run;
}

pub returns-in-ListTests : goal.returns-in-ListTests
returns-in-ListTests g c = record {
  promises = c.follow_project-in-ListTests.ensures.promises;
  spares = project_spare (g.F.Site.folder c.args.site.now) c.args.command _ _ _ (has_project _ _ c.in-ListTests.is tt);
  spares_run = c.follow_project-in-ListTests.ensures.spares_run;
}

pub returns-in_default : goal.returns-in_default
returns-in_default g c = record {
  promises = inl (c.follow.ensures.promises, inl (λ has. absurd (no_project c.args.command.verb c.in_default.not-Run c.in_default.not-ListTests has)));
  spares = c.follow.ensures.spares;
  spares_run = c.follow.ensures.spares_run;
}

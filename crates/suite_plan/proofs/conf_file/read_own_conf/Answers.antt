use Rattle.std.proofs.Common.{◌≡◌, Option, Ok, IfOk, subst, ◌∙◌}
use Rattle.suite_plan.specs.ConfFile.{files_say, project_settings, ReadsSaid}
use Rattle.testr_conf.specs.Settings.{Settings}
use Rattle.suite_plan.proofs.ConfLemmas.{project_end, project_absent, project_refuses}
use Rattle.suite_plan.proofs.conf_file.read_own_conf.Goals as goal

pub returns-in-Ok-Some : goal.returns-in-Ok-Some
returns-in-Ok-Some g c =
    let path = c.in-Ok.ensures.ok ∙ c.folder.ensures.path in
    record {
      step = project_end (record { folder = g.F.Site.folder c.args.site.now; face = c.args.face; words = c.args.words.now }) (files_say c.args.face c.args.words.now)
          (g.F.Site.seen c.args.site.now) (g.F.Site.seen c.read_files.new.site) c.in-Ok-Some.conf
          (subst (λ (o : Option Settings). ReadsSaid (files_say c.args.face c.args.words.now) (g.F.Site.seen c.args.site.now) (g.F.Site.seen c.read_files.new.site) (Ok o)) c.in-Ok-Some.field-0-is c.in-Ok-Some.ensures.step)
          c.of_project.result
          (subst (λ l. IfOk c.of_project.result (λ (s : Settings). s ≡ project_settings l c.args.words.now c.in-Ok-Some.conf)) path c.of_project.ensures.settings)
          c.of_project.ensures.memory;
      path = c.in-Ok-Some.ensures.path;
    }

pub returns-in-Ok-None : goal.returns-in-Ok-None
returns-in-Ok-None g c = record {
  step = project_absent (record { folder = g.F.Site.folder c.args.site.now; face = c.args.face; words = c.args.words.now }) (files_say c.args.face c.args.words.now)
      (g.F.Site.seen c.args.site.now) (g.F.Site.seen c.read_files.new.site)
      (subst (λ (o : Option Settings). ReadsSaid (files_say c.args.face c.args.words.now) (g.F.Site.seen c.args.site.now) (g.F.Site.seen c.read_files.new.site) (Ok o)) c.in-Ok-None.field-0-is c.in-Ok-None.ensures.step);
  path = c.in-Ok-None.ensures.path;
}

pub returns-in-Err : goal.returns-in-Err
returns-in-Err g c = record {
  step = project_refuses (record { folder = g.F.Site.folder c.args.site.now; face = c.args.face; words = c.args.words.now }) (files_say c.args.face c.args.words.now)
      (g.F.Site.seen c.args.site.now) (g.F.Site.seen c.read_files.new.site) c.in-Err.refusal c.in-Err.ensures.step;
  path = c.in-Err.ensures.path;
}

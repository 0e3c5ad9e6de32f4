use Rattle.std.proofs.Common.{◌∙◌, Option, Some, None, Ok, Err, subst}
use Rattle.suite_plan.specs.ConfFile.{first_file, file_says, later_say, ReadsSaid}
use Rattle.suite_plan.specs.declared.conf_file.ConfFile.{ConfFile}
use Rattle.testr_conf.specs.Settings.{Settings}
use Rattle.suite_plan.proofs.ConfLemmas.{first_says, first_refuses, next_says}
use Rattle.suite_plan.proofs.conf_file.read_files.Goals as goal

pub returns-in-Ok-None : goal.returns-in-Ok-None
returns-in-Ok-None g c = record {
  step = next_says (file_says c.args.words.now (first_file c.args.face)) (later_say c.args.face c.args.words.now)
      (g.F.Site.seen c.args.site.now) (g.F.Site.seen c.read_one.new.site) (g.F.Site.seen c.read_later.new.site)
      (subst (λ (f : ConfFile). ReadsSaid (file_says c.args.words.now f) (g.F.Site.seen c.args.site.now) (g.F.Site.seen c.read_one.new.site) (Ok None)) c.first.ensures
      (subst (λ (o : Option Settings). ReadsSaid (file_says c.args.words.now c.first.result) (g.F.Site.seen c.args.site.now) (g.F.Site.seen c.read_one.new.site) (Ok o)) c.in-Ok-None.field-0-is c.in-Ok-None.ensures.step))
      c.read_later.result c.read_later.ensures.step;
  path = c.read_later.ensures.path ∙ c.in-Ok-None.ensures.path;
}

pub returns-in-Ok-Some : goal.returns-in-Ok-Some
returns-in-Ok-Some g c = record {
  step = first_says (file_says c.args.words.now (first_file c.args.face)) (later_say c.args.face c.args.words.now) (g.F.Site.seen c.args.site.now) (g.F.Site.seen c.read_one.new.site) c.in-Ok-Some.conf
      (subst (λ (f : ConfFile). ReadsSaid (file_says c.args.words.now f) (g.F.Site.seen c.args.site.now) (g.F.Site.seen c.read_one.new.site) (Ok (Some c.in-Ok-Some.conf))) c.first.ensures
      (subst (λ (o : Option Settings). ReadsSaid (file_says c.args.words.now c.first.result) (g.F.Site.seen c.args.site.now) (g.F.Site.seen c.read_one.new.site) (Ok o)) c.in-Ok-Some.field-0-is c.in-Ok-Some.ensures.step));
  path = c.in-Ok-Some.ensures.path;
}

pub returns-in-Err : goal.returns-in-Err
returns-in-Err g c = record {
  step = first_refuses (file_says c.args.words.now (first_file c.args.face)) (later_say c.args.face c.args.words.now) (g.F.Site.seen c.args.site.now) (g.F.Site.seen c.read_one.new.site) c.in-Err.refusal
      (subst (λ (f : ConfFile). ReadsSaid (file_says c.args.words.now f) (g.F.Site.seen c.args.site.now) (g.F.Site.seen c.read_one.new.site) (Err c.in-Err.refusal)) c.first.ensures c.in-Err.ensures.step);
  path = c.in-Err.ensures.path;
}

use Rattle.suite_plan.specs.ConfFile.{own_conf_in}
use Rattle.suite_plan.proofs.ConfLemmas.{there_end, there_refuses}
use Rattle.suite_plan.proofs.conf_file.read_conf.Goals as goal

pub returns-in-Ok : goal.returns-in-Ok
returns-in-Ok g c = record {
  step = there_end c.args.words.now.instances (own_conf_in (record { folder = g.F.Site.folder c.args.site.now; face = c.args.face; words = c.args.words.now }))
      (g.F.Site.seen c.args.site.now) (g.F.Site.seen c.read_own_conf.new.site) c.in-Ok.conf c.in-Ok.ensures.step c.place.result c.place.ensures;
}

pub returns-in-Err : goal.returns-in-Err
returns-in-Err g c = record {
  step = there_refuses c.args.words.now.instances (own_conf_in (record { folder = g.F.Site.folder c.args.site.now; face = c.args.face; words = c.args.words.now }))
      (g.F.Site.seen c.args.site.now) (g.F.Site.seen c.read_own_conf.new.site) c.in-Err.refusal c.in-Err.ensures.step;
}

use Rattle.std.proofs.Common.{rules, refl}
use Rattle.command_steps.specs.declared.answer.Refusal.TheVariants.{Conf}
use Rattle.testr_commands.proofs.CallLemmas.{none_made, told_refused}
use Rattle.testr_commands.proofs.ElsewhereLemmas.{asks_at, elsewhere_at, here_at, spares_at, unread_anywhere}
use Rattle.testr_commands.proofs.elsewhere.follow_plain.Goals as goal

pub follow_there-requires : goal.follow_there-requires
follow_there-requires g c = (search rules, (search rules, asks_at (g.F.Site.folder c.look_ahead.new.site) (g.F.Site.folder c.args.site.now) c.args.command _ _ c.in-There.conf c.in-There.ensures.path c.in-There.ensures.found))

pub returns-in-Here : goal.returns-in-Here
returns-in-Here g c =
    let path = g.F.Site.folder c.look_ahead.new.site in
    let f = g.F.Site.folder c.args.site.now in
    record {
      promises = here_at path f c.args.command (g.F.Site.seen c.look_ahead.new.site) _ _ _ c.in-Here.ensures.path c.in-Here.ensures.found c.follow_here.ensures.promises;
      spares_run = spares_at path f c.args.command _ _ _ _ _ c.in-Here.ensures.path c.follow_here.ensures.spares_run;
    }

pub returns-in-There : goal.returns-in-There
returns-in-There g c =
    let path = g.F.Site.folder c.look_ahead.new.site in
    let f = g.F.Site.folder c.args.site.now in
    record {
      promises = elsewhere_at path f c.args.command (g.F.Site.seen c.look_ahead.new.site) _ _ _ c.in-There.ensures.path c.in-There.ensures.found.0 c.follow_there.ensures.promises;
      spares_run = spares_at path f c.args.command _ _ _ _ _ c.in-There.ensures.path c.follow_there.ensures.spares_run;
    }

pub returns-in-Unread : goal.returns-in-Unread
returns-in-Unread g c = record {
  promises = unread_anywhere (g.F.Site.folder c.args.site.now) c.args.command _ _ _ (g.F.Site.seen c.look_ahead.new.site) c.in-Unread.refusal c.requires.project c.in-Unread.ensures.found c.answer.ensures refl;
  spares_run = λ whole. none_made _ _ _ _ _ _ (told_refused (Conf c.in-Unread.refusal) _ c.answer.ensures.code) refl;
}

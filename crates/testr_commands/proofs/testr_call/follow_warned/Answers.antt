use Rattle.std.proofs.Common.{refl, sym, ◌∙◌}
use Rattle.testr_commands.proofs.CallLemmas.{never_both}
use Rattle.testr_commands.proofs.WholeLemmas.{streamed, said_shown, said_hidden}
use Rattle.testr_commands.proofs.testr_call.follow_warned.Goals as goal

pub returns-then-streams : goal.returns-then-streams
returns-then-streams g c =
    let on = sym (c.streams.ensures (g.F.Site.folder c.args.site.now)) ∙ c.if-streams.true in
    record {
      promises = streamed _ _ _ _ _ _ _ _ _ on c.follow_streaming.ensures.promises;
      spares = c.follow_streaming.ensures.spares;
      spares_run = λ forced plain. absurd (never_both _ on plain);
    }

pub returns-then-not-hides_report : goal.returns-then-not-hides_report
returns-then-not-hides_report g c = record {
  promises = said_shown _ _ _ _ _ _ _ _ _ (sym (c.streams.ensures (g.F.Site.folder c.args.site.now)) ∙ c.if-streams.false) (sym (c.hides_report.ensures (g.F.Site.folder c.args.site.now)) ∙ c.if-not-hides_report.true) c.follow_forced.ensures.promises;
  spares = c.follow_forced.ensures.spares;
  spares_run = λ forced plain. c.follow_forced.ensures.spares_run forced;
}

pub returns : goal.returns
returns g c = record {
  promises = said_hidden _ _ _ _ _ _ _ _ _ (sym (c.streams.ensures (g.F.Site.folder c.args.site.now)) ∙ c.if-streams.false) (sym (c.hides_report.ensures (g.F.Site.folder c.args.site.now)) ∙ c.if-not-hides_report.false) refl c.follow_forced-2.ensures.promises;
  spares = c.follow_forced-2.ensures.spares;
  spares_run = λ forced plain. c.follow_forced-2.ensures.spares_run forced;
}

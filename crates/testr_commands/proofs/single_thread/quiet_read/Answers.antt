use Rattle.std.proofs.Common.{refl, sym, ◌∙◌}
use Rattle.testr_commands.proofs.WholeLemmas.{streamed, said_shown, said_hidden}
use Rattle.testr_commands.proofs.single_thread.quiet_read.Goals as goal

pub returns-then-streams_quietly : goal.returns-then-streams_quietly
returns-then-streams_quietly g c = record {
  promises = λ spawner. streamed _ _ _ _ _ _ _ _ _ (sym (c.streams_quietly.ensures (g.F.Site.folder c.args.site.now)) ∙ c.if-streams_quietly.true) (c.quiet_streaming.ensures.promises spawner);
  spares = c.quiet_streaming.ensures.spares;
}

pub returns-then-not-hides_report_quietly : goal.returns-then-not-hides_report_quietly
returns-then-not-hides_report_quietly g c = record {
  promises = λ spawner. said_shown _ _ _ _ _ _ _ _ _ (sym (c.streams_quietly.ensures (g.F.Site.folder c.args.site.now)) ∙ c.if-streams_quietly.false) (sym (c.hides_report_quietly.ensures (g.F.Site.folder c.args.site.now)) ∙ c.if-not-hides_report_quietly.true) (c.quiet_forced.ensures.promises spawner);
  spares = c.quiet_forced.ensures.spares;
}

pub returns : goal.returns
returns g c = record {
  promises = λ spawner. said_hidden _ _ _ _ _ _ _ _ _ (sym (c.streams_quietly.ensures (g.F.Site.folder c.args.site.now)) ∙ c.if-streams_quietly.false) (sym (c.hides_report_quietly.ensures (g.F.Site.folder c.args.site.now)) ∙ c.if-not-hides_report_quietly.false) refl (c.quiet_forced-2.ensures.promises spawner);
  spares = c.quiet_forced-2.ensures.spares;
}

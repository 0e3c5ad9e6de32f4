use Rattle.std.proofs.Common.{refl, sym, ◌∙◌}
use Rattle.testr_commands.proofs.CallLemmas.{never_both}
use Rattle.testr_commands.proofs.ElsewhereLemmas.{forced_anywhere, unforced_anywhere, unmade_anywhere}
use Rattle.testr_commands.proofs.elsewhere.follow_told.Goals as goal

pub returns-then-not-forces : goal.returns-then-not-forces
returns-then-not-forces g c =
    let f = g.F.Site.folder c.args.site.now in
    record {
      promises = unforced_anywhere f c.args.command _ _ _ (sym (c.forces.ensures f) ∙ c.if-not-forces.true) c.follow_plain.ensures.promises;
      spares_run = λ unforced. c.follow_plain.ensures.spares_run;
    }

pub returns-in-Ok : goal.returns-in-Ok
returns-in-Ok g c =
    let f = g.F.Site.folder c.args.site.now in
    let forced = sym (c.forces.ensures f) ∙ c.if-not-forces.false in
    record {
      promises = forced_anywhere f c.args.command _ _ _ (g.H.Shelf.seen c.make_store_where_none.new.shelf) forced c.in-Ok.ensures c.follow_plain-in-Ok.ensures.promises;
      spares_run = λ unforced. absurd (never_both _ forced unforced);
    }

pub returns-in-Err : goal.returns-in-Err
returns-in-Err g c =
    let f = g.F.Site.folder c.args.site.now in
    let forced = sym (c.forces.ensures f) ∙ c.if-not-forces.false in
    record {
      promises = unmade_anywhere f c.args.command _ _ _ c.in-Err.fault forced c.answer.ensures refl c.in-Err.ensures;
      spares_run = λ unforced. absurd (never_both _ forced unforced);
    }

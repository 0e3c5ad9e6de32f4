use Rattle.std.proofs.Common.{◌≡◌, Some, None, sym, ap, ◌∙◌}
use Rattle.std.specs.Prelude.{option_map}
use Rattle.command_words.specs.Items.{texts}
use Rattle.testr_cli.specs.From.{from_in}
use Rattle.testr_cli.proofs.FromLemmas.{promised_found}
use Rattle.testr_cli.proofs.UpgradeLemmas.{from_spares, from_spares_run}
use Rattle.testr_cli.proofs.first_word.by_face.Goals as goal

pub returns-in-Some : goal.returns-in-Some
returns-in-Some g c =
    let tells : from_in (texts c.args.words.now) ≡ Some c.in-Some.from.now = sym c.from_in.ensures ∙ ap (option_map (λ from. from.now)) c.in-Some.is in
    record {
      promises = promised_found (g.F.Site.folder c.args.site.now) c.args.face (texts c.args.words.now) (Some c.in-Some.from.now) (sym tells) _ _ _ c.upgrade_from.ensures;
      spares = from_spares (g.F.Site.folder c.args.site.now) c.args.face (texts c.args.words.now) c.in-Some.from.now tells _ _ _;
      spares_run = λ unforced whole. from_spares_run (g.F.Site.folder c.args.site.now) c.args.face (texts c.args.words.now) c.in-Some.from.now tells (g.H.Shelf.seen c.args.shelf.now).told (g.H.Shelf.seen c.upgrade_from.new.shelf).told c.upgrade_from.result (g.H.Shelf.clock c.args.shelf.now) (g.H.Shelf.clock c.upgrade_from.new.shelf);
    }

pub returns-in-None : goal.returns-in-None
returns-in-None g c =
    let tells : None ≡ from_in (texts c.args.words.now) = sym (ap (option_map (λ from. from.now)) c.in-None.is) ∙ c.from_in.ensures in
    record {
      promises = promised_found (g.F.Site.folder c.args.site.now) c.args.face (texts c.args.words.now) None tells _ _ _ c.testr_as.ensures.promises;
      spares = c.testr_as.ensures.spares;
      spares_run = c.testr_as.ensures.spares_run;
    }

use Rattle.std.proofs.Common.{◌≡◌, ◌∷◌, Some, None, drop, refl, sym, ap, ◌∙◌}
use Rattle.std.proofs.lemmas.List.{take_rest}
use Rattle.command_words.specs.Items.{texts}
use Rattle.testr_words.specs.Words.{face_in, face_word}
use Rattle.testr_commands.proofs.CallLemmas.{of_words}
use Rattle.testr_commands.proofs.SparingLemmas.{none_spare, behind_spare}
use Rattle.testr_words.proofs.WordsLemmas.{face_first, face_other}
use Rattle.testr_cli.proofs.FromLemmas.{promised_behind}
use Rattle.testr_cli.proofs.first_word.program.Goals as goal

pub returns-in-None : goal.returns-in-None
returns-in-None g c =
    let unnamed : face_in (texts c.args.words.now) ≡ None = sym c.face_named.ensures ∙ c.in-None.is in
    record {
      promises = record {
        testr = λ face behind is. absurd (face_other _ unnamed face behind is);
        filters = λ none. record { filtered = c.filters.ensures.promises; folder = refl; spawner = refl };
      };
      spares = λ face behind is. none_spare _ _ _ _ refl;
      spares_run = λ face behind is. absurd (face_other _ unnamed face behind is);
    }

pub returns-in-Some : goal.returns-in-Some
returns-in-Some g c =
    let named : face_in (texts c.args.words.now) ≡ Some c.in-Some.face = sym c.face_named.ensures ∙ c.in-Some.is in
    let first = face_first c.args.words.now c.in-Some.face named in
    let rest = ap (λ l. face_word c.in-Some.face ∷ texts l) (take_rest c.args.words.now 1) ∙ sym first in
    record {
      promises = record {
        testr = λ face behind is. promised_behind (g.F.Site.folder c.args.site.now) c.in-Some.face face _ behind (rest ∙ is) _ _ _ c.by_face.ensures.promises;
        filters = λ none. absurd (none c.in-Some.face (texts (drop 1 c.args.words.now)) first);
      };
      spares = λ face behind is. behind_spare (g.F.Site.folder c.args.site.now) c.in-Some.face face _ behind _ _ _ (rest ∙ is) c.by_face.ensures.spares;
      spares_run = λ face behind is. of_words (g.F.Site.folder c.args.site.now) c.in-Some.face face _ behind (g.H.Shelf.seen c.args.shelf.now).told (g.H.Shelf.seen c.by_face.new.shelf).told c.by_face.result (g.H.Shelf.clock c.args.shelf.now) (g.H.Shelf.clock c.by_face.new.shelf) (rest ∙ is) c.by_face.ensures.spares_run;
    }

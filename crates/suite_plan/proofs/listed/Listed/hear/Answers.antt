use Rattle.std.proofs.Common.{◌++◌, ◌∷◌, [], OnOk, refl, sym, subst}
use Rattle.stream_reader.specs.declared.note.Note.{Note}
use Rattle.stream_reader.specs.Notes.{event_of}
use Rattle.suite_plan.specs.Listed.{HasListed}
use Rattle.suite_plan.proofs.SaidLemmas.{foreign_heard}
use Rattle.suite_plan.proofs.listed.Listed.hear.Goals as goal

pub returns-in-Foreign : goal.returns-in-Foreign
returns-in-Foreign c = λ events has.
    subst (λ (n : Note). OnOk c.add_foreign.result (HasListed (record { ids = c.args.self.now.ids; said = c.add_foreign.new.self }) (events ++ event_of n ∷ []))) (sym c.in-Foreign.is)
    (foreign_heard c.add_foreign.result c.args.self.now _ events c.in-Foreign.bytes refl (rw (c.bytes-in-Foreign.ensures) at c.add_foreign.ensures) has)

use Rattle.std.proofs.Common.{[], ◌∷◌, ◌++◌, List, ap, sym, subst, ◌∙◌}
use Rattle.packet_codec.specs.declared.event.Event.{Event}
use Rattle.event_sift.specs.Keeping.{keeps}
use Rattle.event_sift.specs.Sifted.{Holds}
use Rattle.filter_cli.specs.Events.{events_among}
use Rattle.filter_cli.proofs.EventLemmas.{event_more}
use Rattle.filter_cli.proofs.ExportLemmas.{row_taken}
use Rattle.filter_cli.proofs.csv_export.CsvFilterNoteFilter.take.Goals as goal

pub returns-clause-ok : goal.returns-clause-ok
returns-clause-ok g c event spells notes has =
    let one = c.in_ok-event.ensures.only event spells in
    let all = ap (λ (e : Event). events_among notes ++ e ∷ []) one ∙ sym (event_more notes event) in
    subst (λ (es : List Event). Holds c.add.new.self.held es) all (c.in_ok-part.ensures.taken (events_among notes) has)

pub returns-clause-text : goal.returns-clause-text
returns-clause-text g c event spells notes has =
    row_taken (keeps c.args.self.now.sift.rules.now) (events_among notes) c.in_ok-event.event event c.args.text.now.items c.csv_row.new.out.items c.in_ok-part.part.items c.deref.result.now
    c.in_ok-csv_row.ensures.ok c.deref.ensures.value (c.in_ok-part.ensures.released (events_among notes) has) (c.in_ok-event.ensures.only event spells)

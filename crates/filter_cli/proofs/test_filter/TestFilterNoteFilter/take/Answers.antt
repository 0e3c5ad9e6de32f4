use Rattle.std.proofs.Common.{◌≡◌, List, ℕ, ◌++◌, sym, ap, subst, ◌∙◌, append-nil}
use Rattle.std.specs.Prelude.{OnOk}
use Rattle.event_sift.specs.PacketSifted.{packet_rules_of}
use Rattle.filter_cli.specs.Events.{events_heard}
use Rattle.filter_cli.proofs.LooseLemmas.{heard_more, hidden_more, let_go_by, let_through_at}
use Rattle.filter_cli.proofs.test_filter.TestFilterNoteFilter.take.Goals as goal

pub returns-then-hides-clause-ok : goal.returns-then-hides-clause-ok
returns-then-hides-clause-ok g c event spells notes has =
    rw (hidden_more c.args.self.now.hidden notes event (sym (c.in_ok-hides.ensures event spells) ∙ c.if-hides.true)) has

pub returns-then-hides-clause-text : goal.returns-then-hides-clause-text
returns-then-hides-clause-text g c event spells notes has =
    let self = c.args.self.now in
    let hidden = let_go_by (packet_rules_of self.sift) self.hidden (events_heard self.hidden notes) event (sym (c.in_ok-hides.ensures event spells) ∙ c.if-hides.true) in
    sym (ap (λ (l : List ℕ). c.args.text.now.items ++ l) hidden ∙ append-nil c.args.text.now.items)

pub returns-clause-ok : goal.returns-clause-ok
returns-clause-ok g c event spells notes has =
    let self = c.args.self.now in
    rw (heard_more self.hidden notes event (sym (c.in_ok-hides.ensures event spells) ∙ c.if-hides.false)) (c.hear.ensures.taken (events_heard self.hidden notes) event spells has)

pub returns-clause-text : goal.returns-clause-text
returns-clause-text g c event spells notes has =
    let self = c.args.self.now in
    let shown = let_through_at (packet_rules_of self.sift) self.hidden (events_heard self.hidden notes) event (sym (c.in_ok-hides.ensures event spells) ∙ c.if-hides.false) in
    subst (λ (l : List ℕ). OnOk c.hear.result (c.hear.new.out.items ≡ c.args.text.now.items ++ l)) (sym shown) (c.hear.ensures.released (events_heard self.hidden notes) event spells has)

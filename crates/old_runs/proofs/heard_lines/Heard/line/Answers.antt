use Rattle.std.proofs.Common.{◌≡◌, ◌∙◌, ◌++◌, ◌∷◌, [], All, ap, sym, subst}
use Rattle.std.specs.List.{flat_map}
use Rattle.packet_codec.specs.Canonical.{IsEvent, canonical}
use Rattle.v1_bridge.specs.declared.reader.V1Reader.{V1Reader}
use Rattle.v1_bridge.specs.Reading.{line}
use Rattle.v1_bridge.specs.Kept.{HasRead}
use Rattle.v1_bridge.proofs.FitLemmas.{fit_none}
use Rattle.old_runs.specs.Lines.{HasHeardLines}
use Rattle.old_runs.specs.Places.{place_behind}
use Rattle.old_runs.proofs.PacketLemmas.{gives_these}
use Rattle.old_runs.proofs.HeardLemmas.{heard_line}
use Rattle.old_runs.proofs.heard_lines.Heard.line.Goals as goal

pub returns-clause-heard : goal.returns-clause-heard
returns-clause-heard c inputs given h =
    let events = c.line_into.new.events.items in
    let kept : c.look.new.self.events.items ≡ events = ap (λ v. v.items) c.look.ensures.events in
    let seen : c.deref.result.now ≡ events = c.deref.ensures.value ∙ kept in
    let shown : c.deref-2.result.now ≡ events = c.deref-2.ensures.value ∙ kept in
    gives_these (λ more. HasHeardLines _ (inputs ++ line c.args.line.now ∷ []) (given ++ more)) c.args.packets.now.items c.put_events.new.packets.items events
    (subst (All IsEvent) shown c.in_ok-put_events.ensures.events) (c.in_ok-line_into.ensures.fits c.requires.little (fit_none _ c.clear.ensures.items))
    (c.in_ok-put_events.ensures.packets ∙ ap (λ l. c.args.packets.now.items ++ flat_map canonical l) shown)
    (heard_line c.args.self.now _ inputs c.args.line.now given c.clear.new.self.items events h c.clear.ensures.items (c.in_ok-line_into.ensures.events inputs h.taken) c.look.ensures.told c.look.ensures.broken
    (subst (λ (r : V1Reader). HasRead r (inputs ++ line c.args.line.now ∷ [])) (sym c.look.ensures.reader) (c.in_ok-line_into.ensures.read inputs h.taken))
    (c.behind-self.ensures ∙ (λ i. place_behind (c.look.ensures.place i) c.args.line.now (seen i))))

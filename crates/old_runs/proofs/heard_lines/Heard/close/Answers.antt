use Rattle.std.proofs.Common.{◌≡◌, ◌∙◌, ◌++◌, ◌||◌, All, ap, sym, subst}
use Rattle.std.specs.List.{flat_map, list_any}
use Rattle.std.proofs.lemmas.List.Folds.{list_any-append}
use Rattle.packet_codec.specs.Canonical.{IsEvent, canonical}
use Rattle.v1_bridge.specs.Reading.{events_of_inputs}
use Rattle.old_runs.specs.Files.{has_id}
use Rattle.old_runs.proofs.PacketLemmas.{gives_these}
use Rattle.old_runs.proofs.HeardLemmas.{open_at_end}
use Rattle.old_runs.proofs.heard_lines.Heard.close.Goals as goal

pub returns-clause-events : goal.returns-clause-events
returns-clause-events c inputs given h =
    let events = c.in_ok-events.events.items in
    let shown : c.deref.result.now ≡ events = c.deref.ensures.value in
    let also : c.deref-2.result.now ≡ events = c.deref-2.ensures.value in
    gives_these (λ more. (events_of_inputs inputs ≡ given ++ more) × (c.verdict_of.result.told ≡ list_any has_id (given ++ more))) c.args.packets.now.items c.put_events.new.packets.items events
    (subst (All IsEvent) shown c.in_ok-put_events.ensures.events) (c.in_ok-events.ensures.fits c.requires.little)
    (c.in_ok-put_events.ensures.packets ∙ ap (λ l. c.args.packets.now.items ++ flat_map canonical l) shown) (
      c.in_ok-events.ensures.whole inputs h.taken ∙ ap (λ l. l ++ events) (sym h.made),
      c.verdict_of.ensures.told ∙ (λ i. h.told i || list_any has_id (also i)) ∙ sym (list_any-append has_id given events),
    )

pub returns-clause-open_parts : goal.returns-clause-open_parts
returns-clause-open_parts c inputs given h = open_at_end c.args.self inputs given c.verdict_of.result.open_parts h c.verdict_of.ensures.open_parts

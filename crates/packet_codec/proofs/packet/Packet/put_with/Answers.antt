use Rattle.std.proofs.Common.{◌≡◌, ◌∙◌, ap, refl, arith}
use Rattle.packet_codec.specs.Canonical.{packet_size, canonical_size}
use Rattle.packet_codec.specs.Respelled.{changed}
use Rattle.packet_codec.proofs.RespelledLemmas.{are_of, some_event}
use Rattle.packet_codec.proofs.packet.Packet.put_with.Goals as goal

pub fields_size-requires-clause-shown : goal.fields_size-requires-clause-shown
fields_size-requires-clause-shown c = let some = some_event _ _ _ c.self.invariant in (some.0, some.1.shown)

pub returns-then-size-clause-too_long : goal.returns-then-size-clause-too_long
returns-then-size-clause-too_long c = λ e s _.
    let are = are_of _ _ _ c.self.invariant e (rw (← c.self.view_is) at s) in
    let size : c.whole_size-size.result ≡ canonical_size (changed c.args.change e) = c.whole_size-size.ensures ∙ ap packet_size (c.fields_size.ensures.size e are.shown) in
    (λ fits. omega (arith, size, fits.size), refl)

pub put_changed-requires-clause-fits : goal.put_changed-requires-clause-fits
put_changed-requires-clause-fits c =
    let some = some_event _ _ _ c.self.invariant in
    let size : c.whole_size-size.result ≡ canonical_size (changed c.args.change some.0) = c.whole_size-size.ensures ∙ ap packet_size (c.fields_size.ensures.size some.0 some.1.shown) in
    (some.0, some.1, record { size = omega (arith, size) })

pub returns-clause-put : goal.returns-clause-put
returns-clause-put c = λ e s _.
    let are = are_of _ _ _ c.self.invariant e (rw (← c.self.view_is) at s) in
    let size : c.whole_size-size.result ≡ canonical_size (changed c.args.change e) = c.whole_size-size.ensures ∙ ap packet_size (c.fields_size.ensures.size e are.shown) in
    (record { size = omega (arith, size) }, c.in_ok-put_changed.ensures.ok e are)

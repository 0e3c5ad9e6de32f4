use Rattle.std.proofs.Common.{◌≡◌, List, ℕ, ◌++◌, ◌∙◌, ap, sym, arith}
use Rattle.packet_codec.specs.Canonical.{packet_size, canonical_size}
use Rattle.packet_codec.specs.Packet.{SpellsEvent}
use Rattle.packet_codec.proofs.AloneLemmas.{packet_alone}
use Rattle.packet_codec.proofs.RespelledLemmas.{are_of, some_fitting}
use Rattle.packet_codec.proofs.packet.Packet.put_shortest.Goals as goal

pub fields_size-requires-clause-shown : goal.fields_size-requires-clause-shown
fields_size-requires-clause-shown c = let some = some_fitting _ _ _ c.self.invariant in (some.0, some.1.shown)

pub returns-then-size-self-clause-ok : goal.returns-then-size-self-clause-ok
returns-then-size-self-clause-ok c = λ e s.
    let spelled : SpellsEvent c.self.inside.bytes.now e = rw (← c.self.view_is) at s in
    let size : c.whole_size-size.result ≡ canonical_size e = c.whole_size-size.ensures ∙ ap packet_size (c.fields_size.ensures.size e (are_of _ _ _ c.self.invariant e spelled).shown) in
    c.in_ok-extend_from_slice.ensures.items ∙ ap (λ (l : List ℕ). c.args.out.now.items ++ l) (packet_alone _ e c.self.invariant.are_bytes spelled (sym c.if-size-self.true ∙ size))

pub overflow_cast-size : goal.overflow_cast-size
overflow_cast-size c =
    let some = some_fitting _ _ _ c.self.invariant in
    let size : c.whole_size-size.result ≡ canonical_size some.0 = c.whole_size-size.ensures ∙ ap packet_size (c.fields_size.ensures.size some.0 some.1.shown) in
    omega (arith, size, some.2.size)

pub put_changed-requires-clause-fits : goal.put_changed-requires-clause-fits
put_changed-requires-clause-fits c = some_fitting _ _ _ c.self.invariant

pub returns-clause-ok : goal.returns-clause-ok
returns-clause-ok c = λ e s. c.put_changed.ensures.ok e (are_of _ _ _ c.self.invariant e (rw (← c.self.view_is) at s))

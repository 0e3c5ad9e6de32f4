use Rattle.std.proofs.Common.{◌≡◌, ◌+◌, length, ◌∙◌, ap, arith}
use Rattle.packet_codec.specs.Routing.{under}
use Rattle.packet_codec.specs.Canonical.{canonical_fields, canonical_size, packet_size}
use Rattle.packet_codec.proofs.WritingLemmas.{length_fields_under}
use Rattle.packet_codec.proofs.LaneLemmas.{route_under_fits}
use Rattle.packet_codec.proofs.sizes.routed_size.Goals as goal

pub returns-clause-size : goal.returns-clause-size
returns-clause-size c =
    let fields : c.front_size.result + c.text_route_size.result ≡ length (canonical_fields (under c.args.lane c.args.event.now)) = omega (arith, length_fields_under c.args.lane c.args.event.now) in
    c.whole_size.ensures ∙ ap packet_size fields

pub returns-clause-text : goal.returns-clause-text
returns-clause-text c small =
    let fields : c.front_size.result + c.text_route_size.result ≡ length (canonical_fields (under c.args.lane c.args.event.now)) = omega (arith, length_fields_under c.args.lane c.args.event.now) in
    let size : c.whole_size.result ≡ canonical_size (under c.args.lane c.args.event.now) = c.whole_size.ensures ∙ ap packet_size fields in
    route_under_fits c.args.lane c.args.event.now (omega arith) c.text_route_size.ensures.text (record { size = rw (← size) small })

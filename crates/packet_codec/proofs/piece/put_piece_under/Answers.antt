use Rattle.std.proofs.Common.{◌≡◌, ◌∙◌, ap, arith}
use Rattle.packet_codec.specs.Canonical.{canonical_size, packet_size}
use Rattle.packet_codec.specs.Pieces.{event_of_piece}
use Rattle.packet_codec.specs.Routing.{under}
use Rattle.packet_codec.proofs.piece.put_piece_under.Goals as goal

pub fields_size-requires-clause-shown : goal.fields_size-requires-clause-shown
fields_size-requires-clause-shown c = (event_of_piece c.args.name.now c.args.bytes.now, c.piece_parts-parts.ensures)

pub overflow_cast-size : goal.overflow_cast-size
overflow_cast-size c =
    let event = event_of_piece c.args.name.now c.args.bytes.now in
    let size : c.whole_size-size.result ≡ canonical_size (under c.args.lane event) = c.whole_size-size.ensures ∙ ap packet_size (c.fields_size.ensures.size event c.piece_parts-parts.ensures) in
    omega (arith, size, c.requires.fits.size)

pub put_changed-requires-clause-fits : goal.put_changed-requires-clause-fits
put_changed-requires-clause-fits c =
    let header = c.piece_header.ensures c.args.name.now c.args.bytes.now in
    (event_of_piece c.args.name.now c.args.bytes.now, record { first = header.0; second = header.1; shown = c.piece_parts-parts.ensures }, c.requires.fits)

pub put_changed-requires-clause-size : goal.put_changed-requires-clause-size
put_changed-requires-clause-size c = λ e are. c.whole_size-size.ensures ∙ ap packet_size (c.fields_size.ensures.size e are.shown)

pub returns-clause-ok : goal.returns-clause-ok
returns-clause-ok c =
    let header = c.piece_header.ensures c.args.name.now c.args.bytes.now in
    c.put_changed.ensures.ok (event_of_piece c.args.name.now c.args.bytes.now) (record { first = header.0; second = header.1; shown = c.piece_parts-parts.ensures })

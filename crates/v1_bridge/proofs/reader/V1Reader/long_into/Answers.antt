use Rattle.std.proofs.Common.{All, sym, subst}
use Rattle.std.proofs.lemmas.List.Elements.{All-append}
use Rattle.packet_codec.specs.Canonical.{Fits}
use Rattle.v1_bridge.specs.Reading.{piece, step}
use Rattle.v1_bridge.specs.Fitting.{IsShortState}
use Rattle.v1_bridge.specs.Kept.{state_of}
use Rattle.v1_bridge.proofs.RunLemmas.{given_is, read_push}
use Rattle.v1_bridge.proofs.FitLemmas.{piece_fits_at}
use Rattle.v1_bridge.proofs.reader.V1Reader.long_into.Goals as goal

pub returns-clause-events : goal.returns-clause-events
returns-clause-events c inputs known = given_is (state_of c.args.self.now) inputs (piece c.args.piece.now c.args.last) c.args.events.now.items c.take_piece.new.events.items known c.in_ok-take_piece.ensures.given

pub returns-clause-read : goal.returns-clause-read
returns-clause-read c inputs known = read_push (state_of c.args.self.now) (state_of c.take_piece.new.self) inputs (piece c.args.piece.now c.args.last) known c.in_ok-take_piece.ensures.state

pub returns-clause-fits : goal.returns-clause-fits
returns-clause-fits c little before =
    let s = state_of c.args.self.now in
    subst (All Fits) (sym c.in_ok-take_piece.ensures.given) (All-append Fits c.args.events.now.items (step s (piece c.args.piece.now c.args.last)).given before (piece_fits_at s c.args.piece.now c.args.last c.requires.short little).given)

pub returns-clause-little : goal.returns-clause-little
returns-clause-little c little = subst IsShortState (sym c.in_ok-take_piece.ensures.state) (piece_fits_at (state_of c.args.self.now) c.args.piece.now c.args.last c.requires.short little).state

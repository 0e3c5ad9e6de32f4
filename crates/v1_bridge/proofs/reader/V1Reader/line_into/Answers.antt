use Rattle.std.proofs.Common.{All, sym, subst}
use Rattle.std.proofs.lemmas.List.Elements.{All-append}
use Rattle.packet_codec.specs.Canonical.{Fits}
use Rattle.v1_bridge.specs.Reading.{line, step}
use Rattle.v1_bridge.specs.Fitting.{IsShortState}
use Rattle.v1_bridge.specs.Kept.{state_of}
use Rattle.v1_bridge.proofs.RunLemmas.{given_is, read_push}
use Rattle.v1_bridge.proofs.FitLemmas.{line_fits_at}
use Rattle.v1_bridge.proofs.reader.V1Reader.line_into.Goals as goal

pub returns-clause-events : goal.returns-clause-events
returns-clause-events c inputs known = given_is (state_of c.args.self.now) inputs (line c.args.line.now) c.args.events.now.items c.take_line.new.events.items known c.in_ok-take_line.ensures.given

pub returns-clause-read : goal.returns-clause-read
returns-clause-read c inputs known = read_push (state_of c.args.self.now) (state_of c.take_line.new.self) inputs (line c.args.line.now) known c.in_ok-take_line.ensures.state

pub returns-clause-fits : goal.returns-clause-fits
returns-clause-fits c little before =
    let s = state_of c.args.self.now in
    subst (All Fits) (sym c.in_ok-take_line.ensures.given) (All-append Fits c.args.events.now.items (step s (line c.args.line.now)).given before (line_fits_at s c.args.line.now c.requires.short little).given)

pub returns-clause-little : goal.returns-clause-little
returns-clause-little c little = subst IsShortState (sym c.in_ok-take_line.ensures.state) (line_fits_at (state_of c.args.self.now) c.args.line.now c.requires.short little).state

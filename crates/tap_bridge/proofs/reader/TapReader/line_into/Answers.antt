use Rattle.std.proofs.Common.{sym, subst, map}
use Rattle.std.proofs.lemmas.List.{map_push}
use Rattle.tap_bridge.specs.Events.{input_of}
use Rattle.tap_bridge.specs.Kept.{HasTakenLines}
use Rattle.tap_bridge.proofs.reader.TapReader.line_into.Goals as goal

pub returns-clause-read : goal.returns-clause-read
returns-clause-read c lines known =
    subst (HasTakenLines c.take_line.new.self) (sym (map_push input_of lines c.args.line.now)) (c.in_ok-take_line.ensures.read (map input_of lines) known)

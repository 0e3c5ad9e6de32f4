use Rattle.tap_bridge.proofs.ReadLemmas.{knows_other}
use Rattle.tap_bridge.proofs.reader.TapReader.take_other.Goals as goal

pub returns-clause-read : goal.returns-clause-read
returns-clause-read c before known = knows_other c.args.self.now before c.args.line.now known

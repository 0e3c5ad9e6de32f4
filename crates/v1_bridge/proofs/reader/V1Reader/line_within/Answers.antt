use Rattle.std.proofs.Common.{◌++◌, ap, ◌∙◌}
use Rattle.v1_bridge.specs.Reading.{LineStep}
use Rattle.v1_bridge.proofs.ReaderLemmas.{plain_line}
use Rattle.v1_bridge.proofs.reader.V1Reader.line_within.Goals as goal

pub returns-in_ok-within-in-None-clause-given : goal.returns-in_ok-within-in-None-clause-given
returns-in_ok-within-in-None-clause-given c =
    c.in_ok-within-in-None.ensures.given ∙ ap (λ (r : LineStep). c.args.events.now.items ++ r.given) (plain_line c.args.self.now c.args.test c.args.line.now c.line_content.result.now c.in-None.is c.line_content.ensures.content)

pub returns-in_ok-within-in-None-clause-state : goal.returns-in_ok-within-in-None-clause-state
returns-in_ok-within-in-None-clause-state c =
    c.in_ok-within-in-None.ensures.state ∙ ap (λ (r : LineStep). r.state) (plain_line c.args.self.now c.args.test c.args.line.now c.line_content.result.now c.in-None.is c.line_content.ensures.content)

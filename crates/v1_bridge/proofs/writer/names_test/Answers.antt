use Rattle.std.proofs.Common.{is_some, ap, ◌∙◌}
use Rattle.v1_bridge.proofs.writer.names_test.Goals as goal

pub returns : goal.returns
returns c event spells = c.is_some.ensures ∙ ap is_some (c.in_ok-id.ensures event spells)

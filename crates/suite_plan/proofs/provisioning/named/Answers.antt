use Rattle.std.proofs.Common.{◌∙◌, sym, arith}
use Rattle.suite_plan.proofs.InstanceLemmas.{named_long}
use Rattle.suite_plan.proofs.provisioning.named.Goals as goal

pub returns-then-bytes-ge-TOO_MANY : goal.returns-then-bytes-ge-TOO_MANY
returns-then-bytes-ge-TOO_MANY c = c.new.ensures ∙ sym (named_long c.args.bytes.now (omega arith))

use Rattle.packet_codec.proofs.WritingLemmas.{kept_behind}
use Rattle.sub_text.proofs.report.write_failures.Goals as goal

pub returns-in_err-write_failure-clause-kept : goal.returns-in_err-write_failure-clause-kept
returns-in_err-write_failure-clause-kept c = kept_behind c.args.text.now.items c.loop-row.text.items c.write_failure.new.text.items _ c.loop-row.invariant c.in_err-write_failure.ensures.kept

use Rattle.packet_codec.proofs.WritingLemmas.{kept_behind}
use Rattle.skip_reasons.proofs.skips.write_lines.Goals as goal

pub returns-in_err-write_line-clause-kept : goal.returns-in_err-write_line-clause-kept
returns-in_err-write_line-clause-kept c = kept_behind c.args.text.now.items c.loop-tally.text.items c.write_line.new.text.items _ c.loop-tally.invariant c.in_err-write_line.ensures.kept

use Rattle.packet_codec.proofs.WritingLemmas.{kept_behind}
use Rattle.last_failures.proofs.texts.put_blocks.Goals as goal

pub returns-in_err-put_block-clause-kept : goal.returns-in_err-put_block-clause-kept
returns-in_err-put_block-clause-kept c = kept_behind c.args.text.now.items c.loop-id.text.items c.put_block.new.text.items _ c.loop-id.invariant c.in_err-put_block.ensures.kept

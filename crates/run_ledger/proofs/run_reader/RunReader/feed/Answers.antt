use Rattle.stream_reader.proofs.TurnLemmas.{split_parts}
use Rattle.run_ledger.proofs.FoldLemmas.{read_to_none, read_to_more}
use Rattle.run_ledger.proofs.run_reader.RunReader.feed.Goals as goal

pub loop-left-init : goal.loop-left-init
loop-left-init c = record {
  held = c.in_ok-settle.ensures.held;
  read = read_to_none c.settle.result _ _ c.args.piece.now _ c.in_ok-settle.was c.settle.ensures.read;
}

pub loop-left-preserved : goal.loop-left-preserved
loop-left-preserved c = record {
  held = c.in_ok-feed_part.ensures.held;
  read = read_to_more c.feed_part.result _ _ _ c.args.piece.now _ _ _ _ c.in_ok-feed_part.was (split_parts _ _ _ _ c.split_at.ensures.front c.split_at.ensures.back) c.feed_part.ensures.read c.loop-left.invariant.read;
}

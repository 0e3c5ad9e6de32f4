use Rattle.std.proofs.Common.{rules}
use Rattle.stream_reader.proofs.TurnLemmas.{split_parts}
use Rattle.old_runs.proofs.StreamLemmas.{fed_to_none, fed_to_more, fed_to_end}
use Rattle.old_runs.proofs.stream.OldStream.feed.Goals as goal

pub loop-left-init : goal.loop-left-init
loop-left-init c = record { going_on = c.requires.going_on; fed = fed_to_none c.args.self.now c.args.piece.now c.args.packets.now.items }

pub loop-left-preserved : goal.loop-left-preserved
loop-left-preserved c = record {
  going_on = c.in_ok-feed_part.ensures.going_on;
  fed = fed_to_more c.args.self.now c.loop-left.self c.feed_part.new.self c.args.piece.now c.loop-left.left.now _ _ _ _ _ (split_parts _ _ _ _ c.split_at.ensures.front c.split_at.ensures.back) c.in_ok-feed_part.ensures.fed c.loop-left.invariant.fed;
}

pub returns-clause-fed : goal.returns-clause-fed
returns-clause-fed c = fed_to_end c.args.self.now c.loop-left.self c.args.piece.now c.loop-left.left.now _ _ (search rules) c.loop-left.invariant.fed

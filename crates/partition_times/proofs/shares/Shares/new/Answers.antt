use Rattle.std.proofs.Common.{refl, ◌∙◌, ap, replicate, [], ◌++◌, ◌∷◌}
use Rattle.partition_times.proofs.LoadLemmas.{one_more_share, replicate_more}
use Rattle.partition_times.proofs.shares.Shares.new.Goals as goal

pub loop-index-preserved : goal.loop-index-preserved
loop-index-preserved c = record {
  lists = c.in_ok-push.ensures.items ∙ ap (λ l. l ++ c.new.result ∷ []) c.loop-index.invariant.lists ∙ ap (λ x. replicate c.loop-index.index [] ++ x ∷ []) c.new.ensures ∙ replicate_more c.loop-index.index;
  queue = λ times. rw c.in_ok-insert.ensures.keys (one_more_share times c.loop-index.index _ c.loop-index.queue.keys refl (c.loop-index.invariant.queue times));
}

pub returns-clause-queue : goal.returns-clause-queue
returns-clause-queue c = λ times. rw c.loop-index.invariant.lists (c.loop-index.invariant.queue times)

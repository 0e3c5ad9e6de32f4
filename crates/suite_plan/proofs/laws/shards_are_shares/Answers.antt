use Rattle.suite_plan.proofs.ShardLemmas.{shards_once, shards_as_often, shards_in_one, shards_bounded}
use Rattle.suite_plan.proofs.laws.shards_are_shares.Goals as goal

pub returns-clause-once : goal.returns-clause-once
returns-clause-once c = shards_once

pub returns-clause-as_often : goal.returns-clause-as_often
returns-clause-as_often c = shards_as_often

pub returns-clause-groups : goal.returns-clause-groups
returns-clause-groups c = shards_in_one

pub returns-clause-bound : goal.returns-clause-bound
returns-clause-bound c = shards_bounded

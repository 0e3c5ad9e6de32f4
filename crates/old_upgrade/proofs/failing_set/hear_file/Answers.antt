use Rattle.std.proofs.Common.{subst, Option, IfSome, List, ℕ}
use Rattle.old_runs.specs.Files.{AreFailingIn}
use Rattle.old_upgrade.proofs.FailingLemmas.{failed_last, failing_damaged, failing_ordered, some_not_none}
use Rattle.old_upgrade.proofs.failing_set.hear_file.Goals as goal

pub returns-in-Ok-Some-clause-ids : goal.returns-in-Ok-Some-clause-ids
returns-in-Ok-Some-clause-ids g c =
    failed_last _ c.hear_pieces.new.failing c.in-Ok-Some.ids c.in_ok-hear_pieces.ensures.heard
    (λ bytes heard damaged. some_not_none _ c.in-Ok-Some.ids c.in-Ok-Some.field-0-is ((c.in-Ok-Some.ensures.none bytes heard).1 damaged))
    (λ bytes heard. subst (λ (o : Option (List (List ℕ))). IfSome o (AreFailingIn bytes)) c.in-Ok-Some.field-0-is (c.in-Ok-Some.ensures.some bytes heard))

pub returns-in-Ok-Some-clause-ordered : goal.returns-in-Ok-Some-clause-ordered
returns-in-Ok-Some-clause-ordered g c =
    let heard = c.in_ok-hear_pieces.ensures.some in
    failing_ordered heard.0 c.in-Ok-Some.ids (subst (λ (o : Option (List (List ℕ))). IfSome o (AreFailingIn heard.0)) c.in-Ok-Some.field-0-is (c.in-Ok-Some.ensures.some heard.0 heard.1))

pub returns-in-Ok-None-clause-refused : goal.returns-in-Ok-None-clause-refused
returns-in-Ok-None-clause-refused g c =
    failing_damaged _ c.hear_pieces.new.failing c.in_ok-hear_pieces.ensures.heard (λ bytes heard. (c.in-Ok-None.ensures.none bytes heard).0 c.in-Ok-None.field-0-is)

use Rattle.std.proofs.Common.{ap}
use Rattle.std.specs.FinMap as fin
use Rattle.outcome_fold.specs.Order.{test_cmp}
use Rattle.outcome_fold.proofs.TableLemmas.{none_of_length}
use Rattle.last_failures.proofs.PartLemmas.{none_held}
use Rattle.last_failures.proofs.parts.FailedParts.new.Goals as goal

pub returns : goal.returns
returns c = λ wanted. none_held wanted _ (ap (fin.from_entries {R = test_cmp}) (none_of_length _ c.new.ensures.len)) (ap (fin.from_entries {R = test_cmp}) (none_of_length _ c.new-2.ensures.len))

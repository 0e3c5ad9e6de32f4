use Rattle.std.proofs.Common.{ap}
use Rattle.outcome_fold.specs.Order.{among}
use Rattle.outcome_fold.proofs.TableLemmas.{none_of_length}
use Rattle.last_failures.proofs.ids_without_row.IdsWithoutRow.is_empty.Goals as goal

pub returns : goal.returns
returns c = λ is id. rw (← c.self.view_is) (ap (λ l. among l id) (none_of_length _ (c.is_empty.ensures.0 is)))

use Rattle.last_failures.proofs.FindLemmas.{none_found}
use Rattle.last_failures.proofs.search_state.SearchState.new.Goals as goal

pub returns : goal.returns
returns c = none_found _ _ _ c.in_ok-of.ensures c.new.ensures

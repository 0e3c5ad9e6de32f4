use Rattle.suite_plan.proofs.PatternLists.{list_unread, list_read}
use Rattle.suite_plan.proofs.pattern_list.read_pattern_list.Goals as goal

pub returns-in-Err : goal.returns-in-Err
returns-in-Err g c = record { step = list_unread _ _ _ _ c.in-Err.ensures.step }

pub returns-in-Ok : goal.returns-in-Ok
returns-in-Ok g c = record { step = list_read _ _ _ _ _ _ c.deref.ensures.value c.in-Ok.ensures.step c.patterns_of.ensures }

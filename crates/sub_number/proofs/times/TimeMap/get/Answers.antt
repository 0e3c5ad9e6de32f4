use Rattle.std.proofs.Common.{◌∙◌}
use Rattle.sub_number.proofs.TimeLemmas.{lookup_in_map}
use Rattle.sub_number.proofs.times.TimeMap.get.Goals as goal

pub returns : goal.returns
returns c = rw (← c.self.view_is) (c.copied.ensures ∙ c.get.ensures.value ∙ lookup_in_map _ _)

use Rattle.std.proofs.Common.{◌≡◌, ◌++◌, take}
use Rattle.std.specs.List.{flat_map}
use Rattle.sub_text.specs.Listed.{tag_behind}
use Rattle.sub_text.proofs.stats.write_behind.Given as goal

abbrev pub invariant-loop-tag : goal.invariant-loop-tag
invariant-loop-tag l = l.text.items ≡ l.fn.text.items ++ flat_map tag_behind (take l.tag-index l.tags)

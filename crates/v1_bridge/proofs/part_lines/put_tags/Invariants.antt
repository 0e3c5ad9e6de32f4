use Rattle.std.proofs.Common.{◌≡◌, ◌++◌, take}
use Rattle.v1_bridge.specs.Writing.{tag_words}
use Rattle.v1_bridge.proofs.part_lines.put_tags.Given as goal

abbrev pub invariant-loop-tag : goal.invariant-loop-tag
invariant-loop-tag l = l.out.items ≡ l.fn.out.items ++ tag_words (take l.tag-index l.tags)

use Rattle.std.proofs.Common.{◌≡◌, ◌++◌, take}
use Rattle.packet_codec.specs.Retagging.{lent_bytes}
use Rattle.outcome_fold.specs.Order.{in_byte_order}
use Rattle.event_sift.proofs.lent_tags.put_texts.Given as goal

abbrev pub invariant-loop-text : goal.invariant-loop-text
invariant-loop-text l = lent_bytes l.tags.items ≡ in_byte_order (lent_bytes l.fn.tags.items ++ take l.text-index l.texts)

use Rattle.std.proofs.Common.{take}
use Rattle.std.proofs.lemmas.List.{take_rest}
use Rattle.crc_parts.specs.Prefixes.{HasPrefixes}
use Rattle.stream_reader.proofs.BufferLemmas.{all_along, whole_along}
use Rattle.stream_reader.proofs.buffer.Buffer.sum_at.Goals as goal

pub crc_between-requires-clause-along : goal.crc_between-requires-clause-along
crc_between-requires-clause-along c =
    let fed = c.feed.ensures (take c.self.inside.prefixes.count c.self.inside.bytes.items) c.self.invariant.4 in
    rw (c.deref-2.ensures.value) (all_along c.feed.new.self c.self.inside.prefixes.count c.self.inside.bytes.items (rw (take_rest, c.deref.ensures.value, c.count-along.ensures) at fed))

pub invariant_of-self : goal.invariant_of-self
invariant_of-self c =
    let fed = c.feed.ensures (take c.self.inside.prefixes.count c.self.inside.bytes.items) c.self.invariant.4 in
    let all : HasPrefixes c.feed.new.self c.self.inside.bytes.items = all_along c.feed.new.self c.self.inside.prefixes.count c.self.inside.bytes.items (rw (take_rest, c.deref.ensures.value, c.count-along.ensures) at fed) in
    let kept = whole_along c.feed.new.self c.self.inside.bytes.items all in
    (c.self.invariant.0, c.self.invariant.1, c.self.invariant.2, kept.0, kept.1, c.self.invariant.5)

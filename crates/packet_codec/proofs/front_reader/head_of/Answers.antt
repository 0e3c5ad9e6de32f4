use Rattle.packet_codec.proofs.LookLemmas.{needs_more, is_no_header}
use Rattle.packet_codec.proofs.front_reader.head_of.Goals as goal

pub returns-else-is_front_of_header : goal.returns-else-is_front_of_header
returns-else-is_front_of_header c = is_no_header _ c.in_default.ensures.none (λ front. let e = c.is_front_of_header.ensures.1 front in let f = c.if-is_front_of_header.false in absurd (cc (e, f)))

pub returns-then-header-bytes : goal.returns-then-header-bytes
returns-then-header-bytes c = needs_more _ c.in-Some.header c.in-Some.ensures.found c.if-header-bytes.true

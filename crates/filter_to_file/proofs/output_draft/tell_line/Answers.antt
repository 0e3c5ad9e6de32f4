use Rattle.filter_cli.proofs.Prefixes.{rest_in_part, both_parts}
use Rattle.filter_to_file.specs.Filed.{output_fault_text}
use Rattle.filter_to_file.proofs.output_draft.tell_line.Goals as goal

pub returns-clause-prefix : goal.returns-clause-prefix
returns-clause-prefix g c = rest_in_part c.args.name.now output_fault_text _ c.as_bytes.ensures.value _ _ c.in_ok-write_whole.ensures.whole _ c.write_whole-2.ensures.prefix

pub returns-clause-whole : goal.returns-clause-whole
returns-clause-whole g c = both_parts c.args.name.now output_fault_text _ c.as_bytes.ensures.value _ _ c.in_ok-write_whole.ensures.whole _ c.write_whole-2.result c.write_whole-2.ensures.whole

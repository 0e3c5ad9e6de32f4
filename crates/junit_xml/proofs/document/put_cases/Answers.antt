use Rattle.packet_codec.proofs.WritingLemmas.{kept_behind}
use Rattle.junit_xml.proofs.document.put_cases.Goals as goal

pub returns-in_err-put_row-clause-kept : goal.returns-in_err-put_row-clause-kept
returns-in_err-put_row-clause-kept c = kept_behind c.args.text.now.items c.loop-row.text.items c.put_row.new.text.items _ c.loop-row.invariant c.in_err-put_row.ensures.kept

use Rattle.std.proofs.Common.{is_some, sym, ap, ◌∙◌}
use Rattle.packet_codec.specs.Shapes.{bytes_of}
use Rattle.filter_cli.proofs.LooseLemmas.{no_file, of_a_test, of_no_test}
use Rattle.filter_cli.proofs.loose_output.loose_in.Goals as goal

pub returns-in_default : goal.returns-in_default
returns-in_default c event spells = no_file event.id event.file (sym (ap bytes_of c.in_default.is) ∙ c.file_bytes.ensures event spells)

pub returns-then-is_some : goal.returns-then-is_some
returns-then-is_some c event spells = of_a_test event.id event.file (sym (c.is_some.ensures ∙ ap is_some (c.in_ok-id.ensures event spells)) ∙ c.if-is_some.true)

pub returns : goal.returns
returns c event spells =
    of_no_test event.id event.file c.in-Some.bytes.now (sym (c.is_some.ensures ∙ ap is_some (c.in_ok-id.ensures event spells)) ∙ c.if-is_some.false)
    (sym (ap bytes_of c.in-Some.is) ∙ c.file_bytes.ensures event spells)

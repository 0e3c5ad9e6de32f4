use Rattle.std.proofs.Common.{List, ℕ, ◌++◌, sym, ap, ◌∙◌, append-nil}
use Rattle.packet_codec.specs.Shapes.{bytes_of}
use Rattle.v1_bridge.specs.Writing.{last_byte_behind}
use Rattle.v1_bridge.proofs.WriteLemmas.{no_file, outside_none, outside_named, outside_is}
use Rattle.v1_bridge.proofs.writer.V1Writer.put_outside.Goals as goal

pub returns-in_default-clause-text : goal.returns-in_default-clause-text
returns-in_default-clause-text c event spells =
    sym (ap (λ (l : List ℕ). c.args.out.now.items ++ l) (outside_none event.id event.file (no_file event.file (sym (ap bytes_of c.in_default.is) ∙ c.file_bytes.ensures event spells))) ∙ append-nil c.args.out.now.items)

pub returns-in_default-clause-last : goal.returns-in_default-clause-last
returns-in_default-clause-last c event spells = sym (ap (last_byte_behind c.args.self.now.last) (outside_none event.id event.file (no_file event.file (sym (ap bytes_of c.in_default.is) ∙ c.file_bytes.ensures event spells))))

pub returns-then-named-clause-text : goal.returns-then-named-clause-text
returns-then-named-clause-text c event spells =
    sym (ap (λ (l : List ℕ). c.args.out.now.items ++ l) (outside_named event.id event.file (sym c.if-named.true ∙ c.in_ok-named.ensures event spells)) ∙ append-nil c.args.out.now.items)

pub returns-then-named-clause-last : goal.returns-then-named-clause-last
returns-then-named-clause-last c event spells = sym (ap (last_byte_behind c.args.self.now.last) (outside_named event.id event.file (sym c.if-named.true ∙ c.in_ok-named.ensures event spells)))

pub returns-clause-text : goal.returns-clause-text
returns-clause-text c event spells =
    c.in_ok-put_bytes.ensures.text ∙ ap (λ (l : List ℕ). c.args.out.now.items ++ l) (outside_is event.id event.file c.in-Some.bytes.now (sym c.if-named.false ∙ c.in_ok-named.ensures event spells) (sym (ap bytes_of c.in-Some.is) ∙ c.file_bytes.ensures event spells))

pub returns-clause-last : goal.returns-clause-last
returns-clause-last c event spells =
    c.in_ok-put_bytes.ensures.last ∙ ap (last_byte_behind c.args.self.now.last) (outside_is event.id event.file c.in-Some.bytes.now (sym c.if-named.false ∙ c.in_ok-named.ensures event spells) (sym (ap bytes_of c.in-Some.is) ∙ c.file_bytes.ensures event spells))

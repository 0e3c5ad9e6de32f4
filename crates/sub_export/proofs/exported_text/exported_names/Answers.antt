use Rattle.std.proofs.Common.{Bor, List, ℕ, Some, ap, ◌∙◌}
use Rattle.csv.specs.Records.{fields_of}
use Rattle.sub_export.proofs.ReadLemmas.{names_read}
use Rattle.sub_export.proofs.exported_text.exported_names.Goals as goal

pub returns-in-Ok : goal.returns-in-Ok
returns-in-Ok c kept events is =
    let fresh = c.from_reader-reader.ensures in
    let read = c.in_ok-byte_headers.ensures.value fresh.headers fresh.trim in
    ap fields_of c.in-Ok.ensures.cases ∙ names_read (λ (s : Bor (List ℕ)). Some s.now) c.from_reader-reader.result kept events c.args.text.now (fields_of c.in_ok-byte_headers.field-0.now) is fresh.config fresh.state fresh.source read

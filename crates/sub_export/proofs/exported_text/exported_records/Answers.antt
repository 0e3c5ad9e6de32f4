use Rattle.std.proofs.Common.{map}
use Rattle.csv.specs.Records.{fields_of}
use Rattle.sub_export.proofs.ReadLemmas.{export_read}
use Rattle.sub_export.proofs.exported_text.exported_records.Goals as goal

pub returns-in-Ok : goal.returns-in-Ok
returns-in-Ok c kept events is = export_read kept events c.args.text.now (map fields_of c.in-Ok.records.items) is c.in-Ok.ensures

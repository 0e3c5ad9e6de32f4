use Rattle.filter_cli.proofs.ExportLemmas.{stream_records}
use Rattle.filter_cli.proofs.csv_export.records_of_streams.Goals as goal

pub returns : goal.returns
returns c = stream_records

use Rattle.std.proofs.Common.{◌<◌, length, ap, Err}
use Rattle.edge_io.proofs.NamesLemmas.{names_more, names_same}
use Rattle.edge_io.proofs.names.found_names.Goals as goal
use Rattle.edge_io.proofs.names.found_names.Goals.{in-Ok+in_ok-insert-in-Ok, in-Err-NotText}

pub loop-file-preserved : goal.loop-file-preserved
loop-file-preserved c =
    let files = c.args.files.now in
    let i = c.loop-file.file-index in
    let file = c.file-item.result in
    let within : i < length files = c.loop-file-test.true in
    let bytes = c.as_bytes.result.now in
    elim c.match-new.branch [
      | in-Ok+in_ok-insert-in-Ok w ↦
          rw w.found-is
          (names_more files i file c.file-item.is within c.loop-file.found c.loop-file.invariant w.insert.new.self w.in-Ok.name bytes w.in-Ok.ensures.ok.0 c.as_bytes.ensures.value w.in-Ok.ensures.ok.1 w.in_ok-insert-in-Ok.ensures.updates.0)
      | in-Err-NotText w ↦
          rw w.found-is
          (names_same files i file c.file-item.is within c.loop-file.found c.loop-file.invariant bytes c.as_bytes.ensures.value (w.in-Err-NotText.ensures.not_text (ap Err w.in-Err-NotText.field-0-is)))
    ]

use Rattle.std.proofs.Common.{◌∙◌, ◌≡◌, ap, ◌<◌, length, length-append, [], ◌∷◌, arith, rules}
use Rattle.edge_io.specs.Kept.{lookup}
use Rattle.edge_io.specs.declared.published_files.File.{File}
use Rattle.edge_io.proofs.KeptLemmas.{copies_more}
use Rattle.edge_io.proofs.published_files.copied_files.Goals as goal

pub loop-file-preserved : goal.loop-file-preserved
loop-file-preserved c =
    let within : c.loop-file.file-index < length c.args.files.now = c.loop-file-test.true in
    let copy : File = record { name = c.in_ok-name.name; bytes = c.in_ok-bytes.bytes } in
    let grown = c.in_ok-push.ensures.items in
    let bytes : c.in_ok-bytes.bytes.items ≡ c.file-item.result.bytes.items = search rules in
    record {
      same = ap lookup grown ∙ copies_more c.args.files.now c.loop-file.file-index c.file-item.result c.file-item.is within c.loop-file.copies.items copy c.loop-file.invariant.same (c.in_ok-name.ensures.ok ∙ c.as_str.ensures.value) bytes;
      count = omega (arith, ap length grown, length-append c.loop-file.copies.items (copy ∷ []), c.loop-file.invariant.count);
    }

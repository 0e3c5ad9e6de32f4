use Rattle.std.proofs.Common.{◌∙◌, ap, sym, length, Some, ◌<◌, arith}
use Rattle.std.specs.Str.{bytes_eq}
use Rattle.std.specs.Option.{option_map}
use Rattle.edge_io.proofs.KeptLemmas.{found_here, found_before}
use Rattle.edge_io.proofs.published_files.last_bytes_of.Goals as goal
use Rattle.edge_io.proofs.published_files.last_bytes_of.Goals.{then-eq, else-eq}

pub loop-file-preserved : goal.loop-file-preserved
loop-file-preserved c =
    let within : c.loop-file.file-index < length c.args.files.now = omega arith in
    let test = ap (λ l. bytes_eq c.args.name.now l) (sym c.as_str.ensures.value) ∙ sym c.eq.ensures in
    elim c.if-eq.branch [
      | then-eq w ↦
          ap (option_map (λ bytes. bytes.now)) w.found-is
          ∙ ap Some w.deref.ensures.value
          ∙ found_here c.args.files.now c.loop-file.file-index c.file-item.result c.file-item.is within c.args.name.now (test ∙ w.if-eq.true)
      | else-eq w ↦
          ap (option_map (λ bytes. bytes.now)) w.found-is
          ∙ c.loop-file.invariant
          ∙ found_before c.args.files.now c.loop-file.file-index c.file-item.result c.file-item.is within c.args.name.now (test ∙ w.if-eq.false)
    ]

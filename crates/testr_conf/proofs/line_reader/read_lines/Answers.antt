use Rattle.std.proofs.Common.{◌<◌, ◌∙◌, ap, length, arith}
use Rattle.std.specs.List.{concat}
use Rattle.testr_conf.specs.Lines.{placed_line, depth_behind}
use Rattle.testr_conf.specs.Seen.{conf_line_meant}
use Rattle.testr_conf.proofs.StandLemmas.{stands_start, line_fits, line_next, line_refused}
use Rattle.testr_conf.proofs.PartLemmas.{read_fits, first_size, rest_size, lines_size}
use Rattle.testr_conf.proofs.line_reader.read_lines.Goals as goal

pub loop-line-init : goal.loop-line-init
loop-line-init c = record {
  stands = stands_start c.args.dialect c.args.text.now c.lines_with_terminator-lines.result c.new-reading.result c.lines_with_terminator-lines.ensures.value c.new-reading.ensures;
  room = omega (arith, ap (λ l. length (concat l)) c.lines_with_terminator-lines.ensures.value, lines_size c.args.text.now);
}

pub overflow_add-number : goal.overflow_add-number
overflow_add-number c =
    let few : c.loop-line.number < 16777216 =
    line_fits c.args.dialect c.args.text.now c.loop-line.above c.loop-line.lines c.next.new.self c.in-Some.line.now c.loop-line.number c.loop-line.reading c.in-Some.ensures.steps c.loop-line.invariant.stands c.requires in
    omega arith

pub take-requires-clause-parts : goal.take-requires-clause-parts
take-requires-clause-parts c =
    read_fits c.loop-line.above (conf_line_meant c.behind.result) c.in-Some.line.now 16777216 (c.behind.ensures ∙ ap (placed_line c.loop-line.above) c.read_line-read.ensures)
    (omega (arith, first_size c.loop-line.lines c.next.new.self c.in-Some.line.now c.in-Some.ensures.steps, c.loop-line.invariant.room, c.requires))

pub take-requires-clause-below : goal.take-requires-clause-below
take-requires-clause-below c =
    omega (arith, rest_size c.as_bytes.result.now c.loop-line.lines c.next.new.self c.in-Some.line.now c.in-Some.ensures.steps c.as_bytes.ensures, c.loop-line.invariant.room, c.requires)

pub loop-line-preserved : goal.loop-line-preserved
loop-line-preserved c = record {
  stands =
      line_next c.args.dialect c.args.text.now c.loop-line.above c.loop-line.lines c.next.new.self c.in-Some.line.now c.loop-line.number c.loop-line.reading c.in-Some.ensures.steps c.loop-line.invariant.stands
      c.take.new.self (conf_line_meant c.behind.result) c.depth_behind-depth.result c.as_bytes.result.now (c.behind.ensures ∙ ap (placed_line c.loop-line.above) c.read_line-read.ensures)
      (c.depth_behind-depth.ensures ∙ ap (depth_behind c.loop-line.above) c.read_line-read.ensures) c.as_bytes.ensures c.in-Ok.ensures.ok;
  room = omega (arith, first_size c.loop-line.lines c.next.new.self c.in-Some.line.now c.in-Some.ensures.steps, c.loop-line.invariant.room);
}

pub returns-in-Err-clause-err : goal.returns-in-Err-clause-err
returns-in-Err-clause-err c =
    line_refused c.args.dialect c.args.text.now c.loop-line.above c.loop-line.lines c.next.new.self c.in-Some.line.now c.loop-line.number c.loop-line.reading c.in-Some.ensures.steps c.loop-line.invariant.stands
    (conf_line_meant c.behind.result) c.depth_behind-depth.result c.as_bytes.result.now (c.behind.ensures ∙ ap (placed_line c.loop-line.above) c.read_line-read.ensures)
    (c.depth_behind-depth.ensures ∙ ap (depth_behind c.loop-line.above) c.read_line-read.ensures) c.as_bytes.ensures
    c.in-Err.fault c.in-Err.ensures.err

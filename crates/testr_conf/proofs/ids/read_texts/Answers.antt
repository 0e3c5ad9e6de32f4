use Rattle.std.proofs.Common.{◌<◌, refl, arith}
use Rattle.testr_conf.proofs.IdLemmas.{listed_first, line_number, line_room, listed_next, listed_refused}
use Rattle.testr_conf.proofs.ids.read_texts.Goals as goal

pub loop-line-init : goal.loop-line-init
loop-line-init c = listed_first c.args.comments c.args.text.now c.lines_with_terminator-lines.result c.new-texts.result c.lines_with_terminator-lines.ensures.value c.new-texts.ensures

pub overflow_add-number : goal.overflow_add-number
overflow_add-number c =
    let few : c.loop-line.number < 16777216 =
    line_number c.args.comments c.args.text.now c.loop-line.lines c.next.new.self c.in-Some.line.now _ c.loop-line.number c.loop-line.texts c.in-Some.ensures.steps refl c.loop-line.invariant c.requires in
    omega arith

pub push_id-requires : goal.push_id-requires
push_id-requires c =
    omega (
      arith,
      line_room c.args.comments c.args.text.now c.loop-line.lines c.next.new.self c.in-Some.line.now c.entry.result.now c.loop-line.number c.loop-line.texts c.in-Some.ensures.steps c.entry.ensures.value c.loop-line.invariant,
      c.entry.ensures.short,
      c.requires,
    )

pub loop-line-preserved : goal.loop-line-preserved
loop-line-preserved c =
    listed_next c.args.comments c.args.text.now c.loop-line.lines c.next.new.self c.in-Some.line.now c.entry.result.now c.loop-line.number c.loop-line.texts c.in-Some.ensures.steps c.entry.ensures.value c.loop-line.invariant
    c.push_id.new.ids c.in-Ok.ensures.text c.in-Ok.ensures.ok

pub returns-in-Err-clause-refused : goal.returns-in-Err-clause-refused
returns-in-Err-clause-refused c =
    listed_refused c.args.comments c.args.text.now c.loop-line.lines c.next.new.self c.in-Some.line.now c.entry.result.now c.loop-line.number c.loop-line.texts c.in-Some.ensures.steps c.entry.ensures.value c.loop-line.invariant
    c.in-Err.fault c.in-Err.ensures.err

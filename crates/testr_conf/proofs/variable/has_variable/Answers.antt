use Rattle.std.proofs.Common.{◌+◌, sym, ap, ◌∙◌, length, arith}
use Rattle.std.proofs.lemmas.List.{take_rest, length-drop}
use Rattle.testr_conf.specs.Filled.{FirstVariable}
use Rattle.testr_conf.specs.declared.variable.Template.TheVariants.{Test}
use Rattle.testr_conf.proofs.PieceLemmas.{has_behind, has_none}
use Rattle.testr_conf.proofs.variable.has_variable.Goals as goal

pub overflow_add-rest : goal.overflow_add-rest
overflow_add-rest c =
    let first : FirstVariable Test c.loop-at.rest.now c.in-Some.at c.in-Some.variable = c.in-Some.ensures.some in
    omega (arith, first.in_range, ap length c.name-in-Some-2.ensures, c.loop-at.invariant.shorter)

pub loop-at-preserved : goal.loop-at-preserved
loop-at-preserved c = record {
  read = has_behind c.args.wanted c.loop-at.rest.now c.in-Some.at c.in-Some.variable c.in-Some.ensures.some c.args.text.now
      c.name.result.now c.name-in-Some.result.now c.name-in-Some-2.result.now c.eq.result c.name.ensures c.name-in-Some.ensures c.name-in-Some-2.ensures
      c.eq.ensures c.if-eq.false c.loop-at.invariant.read;
  shorter =
      omega (
        arith,
        c.loop-at.invariant.shorter,
        ap length (take_rest c.loop-at.rest.now (c.in-Some.at + length c.name-in-Some-2.result.now)),
        length-drop (c.in-Some.at + length c.name-in-Some-2.result.now) c.loop-at.rest.now,
      );
}

pub returns : goal.returns
returns c = sym (c.loop-at.invariant.read ∙ has_none c.args.wanted c.loop-at.rest.now c.in_default.ensures.none)

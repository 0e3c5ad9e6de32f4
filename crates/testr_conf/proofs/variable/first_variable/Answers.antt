use Rattle.testr_conf.proofs.PieceLemmas.{none_left, plain_sign, sign_fits, first_found}
use Rattle.testr_conf.proofs.variable.first_variable.Goals as goal

pub returns-in-Some-read_variable-clause-some : goal.returns-in-Some-read_variable-clause-some
returns-in-Some-read_variable-clause-some c =
    first_found c.args.template c.args.text.now c.loop-skipped.at c.loop-skipped.invariant.in_range c.loop-skipped.invariant.pieces c.in-Some.skipped c.in-Some.ensures
    c.in-Some-read_variable.variable c.in-Some-read_variable.ensures.value c.in-Some-read_variable.ensures.fits

pub loop-skipped-preserved : goal.loop-skipped-preserved
loop-skipped-preserved c = record {
  in_range = sign_fits c.args.template c.args.text.now c.loop-skipped.at c.loop-skipped.invariant.in_range c.loop-skipped.invariant.pieces c.in-Some.skipped c.in-Some.ensures;
  pieces = plain_sign c.args.template c.args.text.now c.loop-skipped.at c.loop-skipped.invariant.in_range c.loop-skipped.invariant.pieces c.in-Some.skipped c.in-Some.ensures
      c.in_default-read_variable.ensures.value;
}

pub returns-clause-none : goal.returns-clause-none
returns-clause-none c = none_left c.args.template c.args.text.now c.loop-skipped.at c.loop-skipped.invariant.in_range c.loop-skipped.invariant.pieces c.in_default.ensures
